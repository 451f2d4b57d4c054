-- What a body has in a lent list, moved along with it: the same doubles at another place, so all are finite where all were. Assumes nothing.
use Prim.Native.Nat.{ℕ, ◌+◌, ◌*◌, ◌/◌, ◌%◌, ◌<◌}
use mathlib.Core.Path.{◌≡◌, refl, sym, ap, ◌∙◌}
use mathlib.Core.List.{List}
use native.Mathlib.Omega.{arith}
use lib.ListN.{length, get_or, length-replicate, get_or-replicate}
use lib.Ieee.{Float, nan}
use lib.Ieee.Scale.{finite}
use Rattle.loops.specs.Cleared.{plus_zero, zeros}
use Rattle.loops.proofs.Tabulate.{length_tabulate, get_d_tabulate, tabulated}
use Rattle.kapitsa_math.specs.Lent.{vec_of}
use Rattle.kapitsa_joint.specs.Impulse.{impulse_of}
use Rattle.kapitsa_joint.specs.Mass.{mass_of}
use Rattle.kapitsa_joint.specs.Centre.{Centres, flat_centres}
use Rattle.kapitsa_joint.specs.declared.impulse.GeneralizedImpulse.{GeneralizedImpulse}
use Rattle.kapitsa_joint.proofs.Centres.{centres_flat, flat_centres_at, flat_centres_long}
use Rattle.mass_operator.specs.Applied.{all_finite_of}
use Rattle.mass_operator.specs.Flat.{flat_impulses}
use Rattle.mass_operator.proofs.Flat.{flat_holds, impulses_flat}
use Rattle.renumbered.specs.Renumber.{Renumbering}
use Rattle.renumbered.specs.Moved.{moved_along, moved_impulses, moved_centres, moved_masses}
use Rattle.renumbered.proofs.Permuted.{every_permuted}

pub along_long : (width : ℕ) (q : ℕ → ℕ) (l : List Float) → length (moved_along width q l) ≡ length l
unfolding moved_along
along_long width q l = length_tabulate _ (length l)

-- number r of body b
pub along_at : (width : ℕ) (q : ℕ → ℕ) (l : List Float) (b r : ℕ) {k j : ℕ} → k < length l → k / width ≡ b → k % width ≡ r → j ≡ width * q b + r → get_or (moved_along width q l) k nan ≡ get_or l j nan
unfolding moved_along
along_at width q l b r {k} {j} h d m e = get_d_tabulate (λ k. get_or l (width * q (k / width) + k % width) nan) (length l) k nan h ∙ rw (d, m, e)

-- ---- read body by body
module _ (q : ℕ → ℕ) (n : ℕ) (l : List Float) where
  module _ (e : length l ≡ 6 * n) (b : ℕ) (h : b < n) where
    of_impulse : (r k j : ℕ) → r < 6 → k ≡ 6 * b + r → j ≡ 6 * q b + r → get_or (moved_impulses q l) k nan ≡ get_or l j nan
    of_impulse r k j a f g = along_at 6 q l b r {k = k} {j = j} (omega arith) (omega arith) (omega arith) g

    pub impulse_along : impulse_of (moved_impulses q l) b ≡ impulse_of l (q b)
    unfolding impulse_of vec_of
    impulse_along = rw (of_impulse 0 (6 * b) (6 * q b) (omega arith) (omega arith) (omega arith), of_impulse 1 (6 * b + 1) (6 * q b + 1) (omega arith) refl refl, of_impulse 2 (6 * b + 2) (6 * q b + 2) (omega arith) refl refl, of_impulse 3 (6 * b + 3) (6 * q b + 3) (omega arith) refl refl, of_impulse 4 (6 * b + 3 + 1) (6 * q b + 3 + 1) (omega arith) (omega arith) (omega arith), of_impulse 5 (6 * b + 3 + 2) (6 * q b + 3 + 2) (omega arith) (omega arith) (omega arith))

  module _ (e : length l ≡ 3 * n) (b : ℕ) (h : b < n) where
    of_centre : (r k j : ℕ) → r < 3 → k ≡ 3 * b + r → j ≡ 3 * q b + r → get_or (moved_centres q l) k nan ≡ get_or l j nan
    of_centre r k j a f g = along_at 3 q l b r {k = k} {j = j} (omega arith) (omega arith) (omega arith) g

    pub centre_along : vec_of (moved_centres q l) (3 * b) ≡ vec_of l (3 * q b)
    unfolding vec_of
    centre_along = rw (of_centre 0 (3 * b) (3 * q b) (omega arith) (omega arith) (omega arith), of_centre 1 (3 * b + 1) (3 * q b + 1) (omega arith) refl refl, of_centre 2 (3 * b + 2) (3 * q b + 2) (omega arith) refl refl)

  module _ (e : length l ≡ 10 * n) (b : ℕ) (h : b < n) where
    of_mass : (r k j : ℕ) → r < 10 → k ≡ 10 * b + r → j ≡ 10 * q b + r → get_or (moved_masses q l) k nan ≡ get_or l j nan
    of_mass r k j a f g = along_at 10 q l b r {k = k} {j = j} (omega arith) (omega arith) (omega arith) g

    pub mass_along : mass_of (moved_masses q l) b ≡ mass_of l (q b)
    unfolding mass_of vec_of
    mass_along = rw (of_mass 0 (10 * b) (10 * q b) (omega arith) (omega arith) (omega arith), of_mass 1 (10 * b + 1) (10 * q b + 1) (omega arith) refl refl, of_mass 2 (10 * b + 1 + 1) (10 * q b + 1 + 1) (omega arith) (omega arith) (omega arith), of_mass 3 (10 * b + 1 + 2) (10 * q b + 1 + 2) (omega arith) (omega arith) (omega arith), of_mass 4 (10 * b + 4) (10 * q b + 4) (omega arith) refl refl, of_mass 5 (10 * b + 4 + 1) (10 * q b + 4 + 1) (omega arith) (omega arith) (omega arith), of_mass 6 (10 * b + 4 + 2) (10 * q b + 4 + 2) (omega arith) (omega arith) (omega arith), of_mass 7 (10 * b + 7) (10 * q b + 7) (omega arith) refl refl, of_mass 8 (10 * b + 7 + 1) (10 * q b + 7 + 1) (omega arith) (omega arith) (omega arith), of_mass 9 (10 * b + 7 + 2) (10 * q b + 7 + 2) (omega arith) (omega arith) (omega arith))

-- ---- six doubles a body: where number k goes
abbrev sixfold : (ℕ → ℕ) → ℕ → ℕ
sixfold p k = 6 * p (k / 6) + k % 6

sixth : (a r : ℕ) → r < 6 → (6 * a + r) / 6 ≡ a
sixth a r h = omega arith

rest : (a r : ℕ) → r < 6 → (6 * a + r) % 6 ≡ r
rest a r h = omega arith

sixfold_back : (n : ℕ) (p q : ℕ → ℕ) → ((b : ℕ) → b < n → q (p b) ≡ b) → (k : ℕ) → k < 6 * n → sixfold q (sixfold p k) ≡ k
sixfold_back n p q e k h = rw (sixth (p (k / 6)) (k % 6) (omega arith), rest (p (k / 6)) (k % 6) (omega arith), e (k / 6) (omega arith)) (omega arith)

six_numbers : (n : ℕ) (p q : ℕ → ℕ) → Renumbering n p q → Renumbering (6 * n) (sixfold p) (sixfold q)
six_numbers n p q r = record {
  new_below = λ k h. omega (arith, r.new_below (k / 6) (omega arith));
  old_below = λ k h. omega (arith, r.old_below (k / 6) (omega arith));
  back = sixfold_back n p q r.back;
  forth = sixfold_back n q p r.forth;
}

module _ (n : ℕ) (p q : ℕ → ℕ) (r : Renumbering n p q) where
  pub finite_along : (l : List Float) → length l ≡ 6 * n → all_finite_of (moved_impulses q l) ≡ all_finite_of l
  unfolding all_finite_of
  finite_along l e =
      rw (along_long 6 q l, e)
      (every_permuted (6 * n) (sixfold p) (sixfold q) (six_numbers n p q r) (λ k. finite (get_or l k nan)) (λ k. finite (get_or (moved_impulses q l) k nan))
      (λ k h. ap finite (along_at 6 q l (p (k / 6)) (k % 6) {k = sixfold p k} {j = k} (omega (arith, r.new_below (k / 6) (omega arith))) (omega arith) (omega arith) (omega (arith, r.back (k / 6) (omega arith))))))

  -- ---- the flat lists of a table under new numbers
  pub impulses_along : (g h : ℕ → GeneralizedImpulse) → ((b : ℕ) → b < n → h (p b) ≡ g b) → flat_impulses h n ≡ moved_impulses q (flat_impulses g n)
  impulses_along g h e = sym (impulses_flat h n (moved_impulses q (flat_impulses g n)) (record {
    long = along_long 6 q (flat_impulses g n) ∙ (flat_holds g n).long;
    at = λ b k. impulse_along q n (flat_impulses g n) (flat_holds g n).long b k ∙ (flat_holds g n).at (q b) (r.old_below b k) ∙ sym (e (q b) (r.old_below b k)) ∙ ap h (r.forth b k);
  }))

  -- +0.0 everywhere
  pub zeros_along : zeros (6 * n) ≡ moved_impulses q (zeros (6 * n))
  unfolding moved_along
  zeros_along =
      rw (length-replicate (6 * n) plus_zero)
      (tabulated nan (λ k. get_or (zeros (6 * n)) (sixfold q k) nan) (6 * n) (zeros (6 * n)) (length-replicate (6 * n) plus_zero)
      (λ k h. get_or-replicate (6 * n) k plus_zero nan h ∙ sym (get_or-replicate (6 * n) (sixfold q k) plus_zero nan ((six_numbers n p q r).old_below k h))))

-- ---- of centres
module _ (p q : ℕ → ℕ) (c d : Centres) (r : Renumbering c.bodies p q) (e : d.bodies ≡ c.bodies) (h : (b : ℕ) → b < c.bodies → d.at (p b) ≡ c.at b) where
  pub centres_along : flat_centres d ≡ moved_centres q (flat_centres c)
  centres_along = sym (centres_flat d (moved_centres q (flat_centres c)) (along_long 3 q (flat_centres c) ∙ flat_centres_long c ∙ ap (λ n. 3 * n) (sym e))
      (λ b k.
      let l : b < c.bodies = omega (arith, e) in
      centre_along q c.bodies (flat_centres c) (flat_centres_long c) b l ∙ flat_centres_at c (q b) (r.old_below b l) ∙ sym (h (q b) (r.old_below b l)) ∙ ap d.at (r.forth b l)))
