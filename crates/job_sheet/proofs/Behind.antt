-- A text written at the front of a lent rest stands behind what the rest begins after. Assumes nothing.
use Prim.Native.Nat.{ℕ, ◌+◌, ◌-◌, ◌<◌, ◌≤◌}
use mathlib.Core.Path.{◌≡◌, refl, sym, ap, ◌∙◌}
use mathlib.Core.List.{List, [], ◌++◌, append_assoc, append-nil}
use native.Mathlib.Omega.{arith}
use lib.ListN.{length, take, drop, length-drop, drop_of_length-le}
use lib.Seq.{drop-drop}
use Rattle.pairs.proofs.Parted.{rest_of, with_rest, rest_is}
use Rattle.listing.specs.Written.{placed, Wrote}

module _ (out : List ℕ) (at : ℕ) (text x : List ℕ) (end : ℕ) (h : at ≤ length out) (w : Wrote (rest_of at out) 0 text x end) where
  front : Wrote (drop at out) 0 text x end
  front = rw (rest_is at out) at w

  rest_bytes : x ≡ text ++ drop (at + length text) out
  unfolding placed
  rest_bytes = let e : 0 + length text ≡ length text = omega arith in front.bytes ∙ ap (λ k. text ++ drop k (drop at out)) e ∙ ap (λ l. text ++ l) (drop-drop (length text) at out)

  -- the whole, once the rest has come back
  pub wrote_behind : Wrote out at text (with_rest at out x) (at + end)
  unfolding placed
  wrote_behind =
      let l = length-drop at out in
      let p = front.within in
      let q = front.after in
      record {
        within = omega arith;
        bytes = ap (λ l. take at out ++ (x ++ l)) (drop_of_length-le (drop at out) {i = length out - at} (rw length-drop (omega arith)))
            ∙ ap (λ l. take at out ++ l) (append-nil x ∙ rest_bytes)
            ∙ sym (append_assoc (take at out) text (drop (at + length text) out));
        after = omega arith;
      }

  -- so that the end is within
  pub behind_end : at + end ≤ length out
  behind_end = let v = wrote_behind in let p = v.within in let q = v.after in omega arith
