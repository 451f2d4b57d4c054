-- The ways through the functions that count the jobs of a list. Assumes nothing.
use Rattle.std.proofs.Common.{◌≡◌, ℕ, ◌+◌, ◌<◌, ◌≤◌, Bool, true, false, cond, not, eqb, ltb, List, length, sym, refl, ap, ◌∙◌, true≢false, add-one, arith, ltb-true, le-ltb, lt-ltb}
use borrow.Author.Tests.{not-true, not-false}
use Rattle.kapitsa_joint.specs.declared.kind.Kind.{Kind}
use Rattle.little_endian.specs.Words.{half_at, word_at}
use Rattle.solve_replay.specs.Seen.{job_seen}
use Rattle.solve_replay.specs.declared.answer.Seen.{Seen}
use Rattle.solve_recorded.specs.Tally.{with_of, missing_of, from_of, begins_at, next_of, jobs_of, list_of}
use Rattle.solve_recorded.specs.declared.tally.Count.{Count}

module _ (list : List ℕ) where
  pub begins_past : (at : ℕ) → length list ≤ at → false ≡ begins_at list at
  unfolding begins_at
  begins_past at h = rw (le-ltb at (length list) h)

  pub begins_name : (at w : ℕ) → at < length list → w ≡ word_at list at → eqb w 3549209602817016139 ≡ begins_at list at
  unfolding begins_at
  begins_name at w h e = rw (lt-ltb at (length list) h, e)

  pub begins_within : (at : ℕ) (b : Bool) → b ≡ begins_at list at → not b ≡ false → at < length list
  unfolding begins_at
  begins_within at b e t = ltb-true at (length list) (go (ltb at (length list)) (sym e ∙ not-false b t))
    where
      go : (x : Bool) → cond x (eqb (word_at list at) 3549209602817016139) false ≡ true → x ≡ true
      go true q = refl
      go false q = absurd (true≢false (sym q))

module _ (kind : Kind) (list : List ℕ) where
  module _ (c r : Count) where
    pub next_missing : length list ≤ c.end → r ≡ missing_of c → r ≡ next_of kind list c
    unfolding next_of
    next_missing h e = e ∙ rw (le-ltb c.end (length list) h)

    pub next_seen : (s : Seen) → c.end < length list → s ≡ job_seen kind list c.end → r ≡ with_of c s → r ≡ next_of kind list c
    unfolding next_of
    next_seen s h q e = e ∙ rw (q, lt-ltb c.end (length list) h)

    pub list_missing : (b : Bool) → b ≡ begins_at list c.end → not b ≡ true → r ≡ missing_of c → r ≡ list_of kind list c
    unfolding list_of
    list_missing b q t e = e ∙ rw (← q, not-true b t)

  -- ---- k of n jobs are counted, from s on
  module _ (s : Count) (n : ℕ) where
    pub record Jobs (k : ℕ) (c : Count) : Type 0 where
      pub within : k ≤ n
      pub counted : c ≡ jobs_of kind list s k

    pub jobs_none : Jobs 0 s
    unfolding jobs_of
    jobs_none = record { within = omega arith; counted = refl }

    pub jobs_more : {k : ℕ} {c r : Count} → Jobs k c → k < n → r ≡ next_of kind list c → Jobs (k + 1) r
    unfolding jobs_of
    jobs_more {k} {c} {r} h l e = record { within = omega arith; counted = rw add-one (e ∙ ap (next_of kind list) h.counted) }

    pub jobs_end : {k : ℕ} {c : Count} (before : Count) (b : Bool) → b ≡ begins_at list before.end → not b ≡ false → n ≡ half_at list (before.end + 8) → s ≡ from_of before (before.end + 16) → Jobs k c → n ≤ k → c ≡ list_of kind list before
    unfolding list_of
    jobs_end {k} {c} before b q t e f h l = let z : k ≡ n = omega (arith, h.within) in h.counted ∙ ap (jobs_of kind list s) z ∙ rw (← q, not-false b t, e, f)
