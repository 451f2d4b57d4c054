-- Labels of bodies, joined row by row, and the keys of rows made of them: two rows have one key exactly where they belong together. Assumes nothing.
use Prim.Native.Nat.{ℕ, ◌+◌, ◌<◌, ◌≤◌}
use mathlib.Core.Path.{◌≡◌, refl, sym, ap, subst, ◌∙◌}
use mathlib.Core.Bool.{Bool, true, false, not, cond, true≢false}
use mathlib.Core.List.{List}
use mathlib.Core.Logic.{◌⊎◌, inl, inr, ◌↔◌, ⊎_elim}
use native.Mathlib.Omega.{arith}
use borrow.Author.Count.{below_more}
use borrow.Author.Tests.{eqb-true, eq-eqb, not-true, not-false}
use lib.Dec.{eqb}
use lib.ListN.{length, get_or}
use lib.Ieee.{Float}
use Rattle.kapitsa_joint.specs.Mass.{mass_of}
use Rattle.groups.specs.Together.{massless, Links, joins_in, body_a, body_b, Has, Linked, Together, itself, shared, through}
use Rattle.groups.specs.Steps.{Front, renamed, Labels, RowJoined, key_of}

-- ---- one label for another
renamed_from : (from to : ℕ) → renamed from to from ≡ to
unfolding renamed
renamed_from from to = rw (eq-eqb from from refl)

renamed_case : (from to x : ℕ) → ((x ≡ from) × (renamed from to x ≡ to)) ⊎ (renamed from to x ≡ x)
unfolding renamed
renamed_case from to x = go (eqb x from) refl
  where
    go : (b : Bool) → eqb x from ≡ b → ((x ≡ from) × (cond (eqb x from) to x ≡ to)) ⊎ (cond (eqb x from) to x ≡ x)
    go true e = inl (eqb-true x from e, rw e)
    go false e = inr (rw e)

pub rename_same : (from to x : ℕ) → x ≡ from → to ≡ renamed from to x
rename_same from to x e = sym (ap (renamed from to) e ∙ renamed_from from to)

pub rename_other : (from to x : ℕ) → (x ≡ from → ⊥) → x ≡ renamed from to x
rename_other from to x n = ⊎_elim (λ h. absurd (n h.0)) (λ h. sym h) (renamed_case from to x)

-- ---- labels
module _ {links : Links} {joining : ℕ → Bool} {rows bodies : ℕ} where
  pub labels_own : {l₀ l : List ℕ} → Front (λ b. b) bodies l₀ l → Labels links joining rows bodies 0 l
  labels_own {l₀} {l} f = record {
    low = λ b h. omega (arith, f.done b h);
    met = λ r h. absurd (omega arith);
    sound = λ x y i j hx hy jx jy e hi hj p q. shared i j x hi hj p (subst (Has links j) (omega (arith, f.done x hx, f.done y hy)) q) jx;
  }

  pub labels_end : {l : List ℕ} {k : ℕ} → Labels links joining rows bodies k l → k ≤ rows → rows ≤ k → Labels links joining rows bodies rows l
  labels_end {k = k} f a b = let e : k ≡ rows = omega arith in rw e at f

module _ (links : Links) (joining : ℕ → Bool) (bodies i : ℕ) (labels : List ℕ) where
  -- where the two labels are one already, if both bodies join
  kept : (joining (body_a links i) ≡ true → joining (body_b links i) ≡ true → get_or labels (body_a links i) 0 ≡ get_or labels (body_b links i) 0) → RowJoined links joining bodies i labels labels
  kept e = record {
    long = refl;
    more = λ rows h linked f. record { low = f.low; met = below_more _ _ f.met e; sound = f.sound };
  }

  module _ (from to : ℕ) (ea : get_or labels (body_a links i) 0 ≡ from) (eb : get_or labels (body_b links i) 0 ≡ to) (ja : joining (body_a links i) ≡ true) (jb : joining (body_b links i) ≡ true) (labels' : List ℕ)
      (r : Front (λ b. renamed from to (get_or labels b 0)) bodies labels labels') where
    changed : RowJoined links joining bodies i labels labels'
    changed = record { long = r.long; more = more }
      where
        more : (rows : ℕ) → i < rows → Linked links rows bodies → Labels links joining rows bodies i labels → Labels links joining rows bodies (i + 1) labels'
        more rows h linked f = record { low = low; met = below_more _ _ before now; sound = sound }
          where
            a : body_a links i < bodies
            a = linked.a i h

            b : body_b links i < bodies
            b = linked.b i h

            low : (x : ℕ) → x < bodies → get_or labels' x 0 < bodies
            low x hx = ⊎_elim (λ c. omega (arith, c.1, r.done x hx, f.low _ b)) (λ c. omega (arith, c, r.done x hx, f.low x hx)) (renamed_case from to (get_or labels x 0))

            before : (k : ℕ) → k < i → joining (body_a links k) ≡ true → joining (body_b links k) ≡ true → get_or labels' (body_a links k) 0 ≡ get_or labels' (body_b links k) 0
            before k l p q = r.done _ (linked.a k (omega arith)) ∙ ap (renamed from to) (f.met k l p q) ∙ sym (r.done _ (linked.b k (omega arith)))

            now : joining (body_a links i) ≡ true → joining (body_b links i) ≡ true → get_or labels' (body_a links i) 0 ≡ get_or labels' (body_b links i) 0
            now p q =
                r.done _ a ∙ ap (renamed from to) ea ∙ renamed_from from to ∙ ⊎_elim (λ c. sym c.1) (λ c. sym c) (renamed_case from to to) ∙ ap (renamed from to) (sym eb) ∙ sym (r.done _ b)

            sound : (x y j k : ℕ) → x < bodies → y < bodies → joining x ≡ true → joining y ≡ true → get_or labels' x 0 ≡ get_or labels' y 0 → j < rows → k < rows → Has links j x → Has links k y → Together links joining rows j k
            sound x y j k hx hy jx jy e hj hk p q =
                ⊎_elim
                (λ c. ⊎_elim (λ d. one (c.0 ∙ sym d.0)) (λ d. left c.0 (omega (arith, c.1, d, both))) (renamed_case from to (get_or labels y 0)))
                (λ c. ⊎_elim (λ d. right (omega (arith, c, d.1, both)) d.0) (λ d. one (omega (arith, c, d, both))) (renamed_case from to (get_or labels y 0)))
                (renamed_case from to (get_or labels x 0))
              where
                both : renamed from to (get_or labels x 0) ≡ renamed from to (get_or labels y 0)
                both = sym (r.done x hx) ∙ e ∙ r.done y hy

                one : get_or labels x 0 ≡ get_or labels y 0 → Together links joining rows j k
                one s = f.sound x y j k hx hy jx jy s hj hk p q

                left : get_or labels x 0 ≡ from → get_or labels y 0 ≡ to → Together links joining rows j k
                left s t = through j i k (f.sound x _ j i hx a jx ja (s ∙ sym ea) hj h p (inl refl)) (f.sound _ y i k b hy jb jy (eb ∙ sym t) h hk (inr refl) q)

                right : get_or labels x 0 ≡ to → get_or labels y 0 ≡ from → Together links joining rows j k
                right s t = through j i k (f.sound x _ j i hx b jx jb (s ∙ sym eb) hj h p (inr refl)) (f.sound _ y i k a hy ja jy (ea ∙ sym t) h hk (inl refl) q)

pub linked_a : {links : Links} {rows bodies : ℕ} (i : ℕ) → Linked links rows bodies → i < rows → body_a links i < bodies
linked_a i t h = t.a i h

pub linked_b : {links : Links} {rows bodies : ℕ} (i : ℕ) → Linked links rows bodies → i < rows → body_b links i < bodies
linked_b i t h = t.b i h

-- ---- the ways through `join_row`; a and b are the two bodies as the code has them
module _ (links : Links) (masses : List Float) (bodies i : ℕ) (labels : List ℕ) (a b : ℕ) (ea : a ≡ body_a links i) where
  pub join_light_a : (t : Bool) → t ≡ massless (mass_of masses a) → t ≡ true → RowJoined links (joins_in masses) bodies i labels labels
  join_light_a t e m = kept links (joins_in masses) bodies i labels (λ p q. absurd (true≢false (sym m ∙ e ∙ ap (λ x. massless (mass_of masses x)) ea ∙ not-true _ p)))

  module _ (eb : b ≡ body_b links i) where
    pub join_light_b : (t : Bool) → t ≡ massless (mass_of masses b) → t ≡ true → RowJoined links (joins_in masses) bodies i labels labels
    join_light_b t e m = kept links (joins_in masses) bodies i labels (λ p q. absurd (true≢false (sym m ∙ e ∙ ap (λ x. massless (mass_of masses x)) eb ∙ not-true _ q)))

    pub join_one : get_or labels a 0 ≡ get_or labels b 0 → RowJoined links (joins_in masses) bodies i labels labels
    join_one e = kept links (joins_in masses) bodies i labels (λ p q. ap (λ x. get_or labels x 0) (sym ea) ∙ e ∙ ap (λ x. get_or labels x 0) eb)

    pub join_two : (s t : Bool) → s ≡ massless (mass_of masses a) → s ≡ false → t ≡ massless (mass_of masses b) → t ≡ false → (labels' : List ℕ) → Front (λ x. renamed (get_or labels a 0) (get_or labels b 0) (get_or labels x 0)) bodies labels labels'
        → RowJoined links (joins_in masses) bodies i labels labels'
    join_two s t es ms et mt labels' r =
        changed links (joins_in masses) bodies i labels (get_or labels a 0) (get_or labels b 0) (ap (λ x. get_or labels x 0) (sym ea)) (ap (λ x. get_or labels x 0) (sym eb))
        (ap not (ap (λ x. massless (mass_of masses x)) (sym ea) ∙ sym es ∙ ms)) (ap not (ap (λ x. massless (mass_of masses x)) (sym eb) ∙ sym et ∙ mt)) labels' r

-- ---- the loop over the rows
pub record Joining (links : Links) (joining : ℕ → Bool) (rows bodies i : ℕ) (labels₀ labels : List ℕ) : Type 0 where
  pub within : i ≤ rows
  pub linked : Linked links rows bodies
  pub long : length labels ≡ length labels₀
  pub known : Labels links joining rows bodies i labels

module _ {links : Links} {joining : ℕ → Bool} {rows bodies : ℕ} {l₀ : List ℕ} where
  pub joining_none : {l : List ℕ} → Linked links rows bodies → Front (λ b. b) bodies l₀ l → Joining links joining rows bodies 0 l₀ l
  joining_none t f = record { within = omega arith; linked = t; long = f.long; known = labels_own f }

  pub joining_more : {i : ℕ} {l l' : List ℕ} → Joining links joining rows bodies i l₀ l → i < rows → RowJoined links joining bodies i l l' → Joining links joining rows bodies (i + 1) l₀ l'
  joining_more h b r = record { within = omega arith; linked = h.linked; long = r.long ∙ h.long; known = r.more rows b h.linked h.known }

  pub joining_end : {i : ℕ} {l : List ℕ} → Joining links joining rows bodies i l₀ l → rows ≤ i → Labels links joining rows bodies rows l
  joining_end {i} {l} h b = labels_end h.known h.within b

-- ---- the ways through `key`
module _ (links : Links) (masses : List Float) (bodies i : ℕ) (labels : List ℕ) (a b : ℕ) (ea : a ≡ body_a links i) (s : Bool) (es : s ≡ massless (mass_of masses a)) where
  pub key_a : not s ≡ true → get_or labels a 0 ≡ key_of links (joins_in masses) bodies labels i
  unfolding key_of
  key_a m = rw (← ea, ← es, not-true s m)

  module _ (ms : not s ≡ false) (eb : b ≡ body_b links i) (t : Bool) (et : t ≡ massless (mass_of masses b)) where
    pub key_b : not t ≡ true → get_or labels b 0 ≡ key_of links (joins_in masses) bodies labels i
    unfolding key_of
    key_b m = rw (← ea, ← es, not-false s ms, ← eb, ← et, not-true t m)

    pub key_own : not t ≡ false → bodies + i ≡ key_of links (joins_in masses) bodies labels i
    unfolding key_of
    key_own m = rw (← ea, ← es, not-false s ms, ← eb, ← et, not-false t m)

-- ---- keys
module _ (links : Links) (joining : ℕ → Bool) (rows bodies : ℕ) (labels : List ℕ) (linked : Linked links rows bodies) (f : Labels links joining rows bodies rows labels) where
  -- what the key of a row is
  data Keyed (i : ℕ) : Type 0 where
    labelled : (x : ℕ) → Has links i x → x < bodies → joining x ≡ true → key_of links joining bodies labels i ≡ get_or labels x 0 → Keyed i
    alone : key_of links joining bodies labels i ≡ bodies + i → Keyed i

  keyed : (i : ℕ) → i < rows → Keyed i
  unfolding key_of
  keyed i h = go (joining (body_a links i)) (joining (body_b links i)) refl refl
    where
      go : (p q : Bool) → joining (body_a links i) ≡ p → joining (body_b links i) ≡ q → Keyed i
      go true q e d = labelled (body_a links i) (inl refl) (linked.a i h) e (rw e)
      go false true e d = labelled (body_b links i) (inr refl) (linked.b i h) d (rw (e, d))
      go false false e d = alone (rw (e, d))

  -- a row's key is the label of each joining body that it has
  key_of_body : (i x : ℕ) → i < rows → Has links i x → joining x ≡ true → key_of links joining bodies labels i ≡ get_or labels x 0
  unfolding key_of
  key_of_body i x h (inl p) j = let ja : joining (body_a links i) ≡ true = ap joining p ∙ j in rw (ja, p)
  key_of_body i x h (inr p) j = go (joining (body_a links i)) refl
    where
      jb : joining (body_b links i) ≡ true
      jb = ap joining p ∙ j

      go : (b : Bool) → joining (body_a links i) ≡ b → key_of links joining bodies labels i ≡ get_or labels x 0
      go true e = rw e (f.met i h e jb ∙ ap (λ y. get_or labels y 0) p)
      go false e = rw (e, jb) (ap (λ y. get_or labels y 0) p)

  key_together : {i j : ℕ} → Together links joining rows i j → key_of links joining bodies labels i ≡ key_of links joining bodies labels j
  key_together (itself i) = refl
  key_together (shared i j b hi hj p q g) = key_of_body i b hi p g ∙ sym (key_of_body j b hj q g)
  key_together (through i j k s t) = key_together s ∙ key_together t

  together_key : (i j : ℕ) → i < rows → j < rows → key_of links joining bodies labels i ≡ key_of links joining bodies labels j → Together links joining rows i j
  together_key i j hi hj e = go (keyed i hi) (keyed j hj)
    where
      go : Keyed i → Keyed j → Together links joining rows i j
      go (labelled x p hx jx ex) (labelled y q hy jy ey) = f.sound x y i j hx hy jx jy (sym ex ∙ e ∙ ey) hi hj p q
      go (labelled x p hx jx ex) (alone d) = absurd (omega (arith, f.low x hx))
      go (alone c) (labelled y q hy jy ey) = absurd (omega (arith, f.low y hy))
      go (alone c) (alone d) = subst (Together links joining rows i) (omega arith) (itself i)

  pub keys_iff : (i j : ℕ) → i < rows → j < rows → (key_of links joining bodies labels i ≡ key_of links joining bodies labels j) ↔ Together links joining rows i j
  keys_iff i j hi hj = (together_key i j hi hj, key_together)

  pub keys_low : (i : ℕ) → i < rows → key_of links joining bodies labels i < bodies + rows
  keys_low i h = go (keyed i h)
    where
      go : Keyed i → key_of links joining bodies labels i < bodies + rows
      go (labelled x p hx jx ex) = omega (arith, f.low x hx)
      go (alone c) = omega arith
