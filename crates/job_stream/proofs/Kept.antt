-- What is left of the bytes once their jobs are printed, and that it stands at the front again. Assumes nothing.
use Prim.Native.Nat.{ℕ, ◌+◌, ◌-◌, ◌≤◌, ◌<◌}
use mathlib.Core.Path.{◌≡◌, refl, sym, ap, ◌∙◌}
use mathlib.Core.List.{List}
use native.Mathlib.Omega.{arith}
use lib.ListN.{length, take, drop, length-take, length-drop}
use lib.Seq.{paste, take-paste}
use Rattle.job_stream.specs.Chunk.{place, leading}
use Rattle.job_stream.specs.Left.{printed_jobs, LeftOf, Leaves, unread_part, Moves}
use Rattle.job_stream.specs.declared.program.Unread.{Unread}
use Rattle.std.proofs.Common.{Option, Some}

leaves_left : {r : Option Unread} {u : Unread} {n : ℕ} {bytes : List ℕ} → Leaves r n bytes → r ≡ Some u → LeftOf n bytes u
leaves_left f e = rw e at f.left

-- of the bytes from `from` to `to`
pub kept_within : {r : Option Unread} {u : Unread} {n : ℕ} (to from : ℕ) (space : List ℕ) → Leaves r n (take (to - from) (drop from space)) → r ≡ Some u → u.kept ≤ to
kept_within to from space f e = let h = (leaves_left f e).1 in let m = length-take (to - from) (drop from space) in omega arith

pub moves_few : {u v : Unread} {more : ℕ} {space space' : List ℕ} {r : Option Unread} → Moves u more space space' r → r ≡ Some v → v.kept < 65540
moves_few m e = (rw e at m.moved).3

-- all that was read is passed over
pub passed_over : (u : Unread) (more : ℕ) (space : List ℕ) → u.kept + more ≤ u.passed → Moves u more space space (Some record { number = u.number; kept = 0; passed = u.passed - (u.kept + more) })
unfolding printed_jobs leading place
passed_over u more space h = let z : u.kept + more - u.passed ≡ 0 = omega arith in record { moved = (rw z (omega arith), rw z (omega arith), rw z (omega arith), omega arith, refl) }

front_kept : (space : List ℕ) (to kept : ℕ) → kept ≤ to → to ≤ length space → take kept (paste space 0 (drop (to - kept) space) (to - (to - kept))) ≡ take kept (drop (to - kept) space)
front_kept space to kept h l =
    let k : to - (to - kept) ≡ kept = omega arith in
    let q : 0 + kept ≡ kept = omega arith in
    ap (λ m. take kept (paste space 0 (drop (to - kept) space) m)) k
    ∙ ap (λ m. take m (paste space 0 (drop (to - kept) space) kept)) (sym q)
    ∙ take-paste space 0 (drop (to - kept) space) kept (omega arith) (rw length-drop (omega arith))

pub moves_on : {u v : Unread} {r : Option Unread} (more : ℕ) (space : List ℕ) {space' : List ℕ} → Leaves r u.number (unread_part u more space) → r ≡ Some v → u.passed < u.kept + more → u.kept + more ≤ length space
    → space' ≡ paste space 0 (drop (u.kept + more - v.kept) space) (u.kept + more - (u.kept + more - v.kept)) → Moves u more space space' (Some v)
moves_on {u} {v} more space f e p l s =
    let t = leaves_left f e in
    let c = t.2 in
    record { moved = (t.0, t.1, omega arith, t.3, ap (take v.kept) s ∙ front_kept space (u.kept + more) v.kept (kept_within (u.kept + more) u.passed space f e) l) }
