-- The gains of the accumulated numbers: what is tested is what is written, since a row's gain reads no other row. Assumes nothing.
use Prim.Native.Nat.{ℕ, zero, suc, ◌+◌, ◌*◌, ◌<◌, ◌≤◌}
use mathlib.Core.Path.{◌≡◌, refl, ap, ◌∙◌}
use mathlib.Core.Bool.{Bool}
use mathlib.Core.List.{List}
use native.Mathlib.Numerals.{add-one}
use native.Mathlib.Omega.{arith}
use lib.ListN.{length, get_or, set, length-set}
use lib.Seq.{get_or-set_other}
use lib.Ieee.{Float, nan, binary64, add}
use lib.Ieee.Scale.{finite}
use Rattle.position.specs.Multipliers.{gain_of, gained}

-- ---- `gain`
pub gain_is : (place : ℕ) (numbers solution : List Float) (i : ℕ) → add binary64 (get_or numbers (27 * i + place) nan) (get_or solution i nan) ≡ gain_of place numbers solution i
unfolding gain_of
gain_is place numbers solution i = refl

-- ---- a turn of `multipliers_finite`
pub gain_tested : (place : ℕ) (numbers solution : List Float) (i : ℕ) (x : Float) (b : Bool) → x ≡ gain_of place numbers solution i → b ≡ finite x → b ≡ finite (gain_of place numbers solution i)
gain_tested place numbers solution i x b ex eb = eb ∙ ap finite ex

-- ---- `add_multipliers`
module _ (place : ℕ) (numbers solution : List Float) where
  gained_length : (k : ℕ) → length (gained place numbers solution k) ≡ length numbers
  unfolding gained
  gained_length zero = refl
  gained_length (suc k) = length-set (gained place numbers solution k) (27 * k + place) (gain_of place numbers solution k) ∙ gained_length k

  -- a row's number is as it was until its own row
  gained_later : (k i : ℕ) → k ≤ i → get_or (gained place numbers solution k) (27 * i + place) nan ≡ get_or numbers (27 * i + place) nan
  unfolding gained
  gained_later zero i h = refl
  gained_later (suc k) i h = get_or-set_other (gained place numbers solution k) (27 * k + place) (27 * i + place) (gain_of place numbers solution k) nan (λ e. omega arith) ∙ gained_later k i (omega arith)

  -- the loop: n rows, of which the first i have gained
  pub record Gains (n i : ℕ) (now : List Float) : Type 0 where
    pub within : i ≤ n
    pub long : length now ≡ length numbers
    pub made : now ≡ gained place numbers solution i

module _ {place : ℕ} {numbers solution : List Float} {n : ℕ} where
  pub gains_none : Gains place numbers solution n 0 numbers
  unfolding gained
  gains_none = record { within = omega arith; long = refl; made = refl }

  pub gains_more : {i : ℕ} {now after : List Float} {x : Float} → Gains place numbers solution n i now → i < n → x ≡ gain_of place now solution i → after ≡ set now (27 * i + place) x → Gains place numbers solution n (i + 1) after
  unfolding gained gain_of
  gains_more {i} {now} {after} {x} h l ex e = record { within = omega arith; long = ap length made ∙ gained_length place numbers solution (i + 1); made = made }
    where
      its : x ≡ gain_of place numbers solution i
      its = ex ∙ ap (λ (m : Float). add binary64 m (get_or solution i nan)) (ap (λ (w : List Float). get_or w (27 * i + place) nan) h.made ∙ gained_later place numbers solution i i (omega arith))

      made : after ≡ gained place numbers solution (i + 1)
      made = rw add-one (e ∙ ap (λ (w : List Float). set w (27 * i + place) x) h.made ∙ ap (set (gained place numbers solution i) (27 * i + place)) its)

  pub gains_end : {i : ℕ} {now : List Float} → Gains place numbers solution n i now → n ≤ i → now ≡ gained place numbers solution n
  gains_end {i} h l = let e : i ≡ n = omega arith in rw e at h.made
