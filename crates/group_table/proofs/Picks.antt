-- Blocks copied, rows picked out and put back. Assumes nothing.
use Prim.Native.Nat.{ℕ, suc, ◌+◌, ◌*◌, ◌/◌, ◌%◌, ◌<◌, ◌≤◌}
use mathlib.Core.Path.{◌≡◌, refl, sym, ap, subst, ◌∙◌}
use mathlib.Core.List.{List, [], ◌∷◌, ◌++◌}
use native.Mathlib.Omega.{arith}
use native.Mathlib.Nat.{mul-le-mul_left, mul-suc, zero-mul, div-add-mod, mod-lt}
use native.Mathlib.Decide.{ℕ_discrete, dec_lt}
use borrow.Author.Count.{below_none, below_more}
use lib.ListN.{length, get_or, set, length-set}
use lib.Seq.{get_or-set_same, get_or-set_other}
use Rattle.loops.proofs.Loop.{loops}
use Rattle.loops.proofs.Tabulate.{length_tabulate, tabulated, tabulate_same}
use Rattle.group_table.specs.Pick.{rows_of, pick_rows, Put, Marked}
use Rattle.group_table.specs.Steps.{Picked, Scattered, BlockCopied, Counting, RowCounted, RoomFor, Picking, RowPicked, Scattering, RowScattered, RowMarked}
use Rattle.group_table.proofs.Rows.{rows_more, rows_same, rows_few, snoc_length, snoc_old, snoc_new, in_order}

-- ---- one row of a table lies before the next
pub row_before : (w i n : ℕ) → i < n → w * i + w ≤ w * n
row_before w i n h = omega (arith, mul-le-mul_left w h, mul-suc w i)

pub row_fits : (w i n m : ℕ) → i < n → w * n ≤ m → w * i + w ≤ m
row_fits w i n m h l = omega (arith, row_before w i n h)

-- ---- a block
pub record Copying {X : Type 0} (d : X) (width at put c : ℕ) (from to₀ to : List X) : Type 0 where
  pub within : c ≤ width
  pub room : put + width ≤ length to₀
  pub copied : BlockCopied d c at put from to₀ to

module _ {X : Type 0} {d : X} {width at put : ℕ} {from to₀ : List X} where
  pub copying_none : put + width ≤ length to₀ → Copying d width at put 0 from to₀ to₀
  copying_none h = record { within = omega arith; room = h; copied = record { long = refl; here = below_none _; before = λ p l. refl; behind = λ p l. refl } }

  pub copying_more : {c : ℕ} {to : List X} → Copying d width at put c from to₀ to → c < width → Copying d width at put (c + 1) from to₀ (set to (put + c) (get_or from (at + c) d))
  copying_more {c} {to} h l =
      let f = h.copied in
      record {
        within = omega arith;
        room = h.room;
        copied = record {
          long = length-set to (put + c) _ ∙ f.long;
          here = below_more _ _ (λ k b. get_or-set_other to (put + c) (put + k) _ d (λ q. omega arith) ∙ f.here k b) (get_or-set_same to (put + c) _ d (omega (arith, f.long, h.room)));
          before = λ p b. get_or-set_other to (put + c) p _ d (λ q. omega arith) ∙ f.before p b;
          behind = λ p b. get_or-set_other to (put + c) p _ d (λ q. omega arith) ∙ f.behind p (omega arith);
        };
      }

  pub copying_end : {c : ℕ} {to : List X} → Copying d width at put c from to₀ to → width ≤ c → BlockCopied d width at put from to₀ to
  copying_end {c} h l = let e : c ≡ width = omega (arith, h.within) in rw e at h.copied

-- ---- picking
module _ {X : Type 0} {d : X} {width : ℕ} {groups : List ℕ} {g : ℕ} {from : List X} where
  pub picking_none : {n : ℕ} {to₀ : List X} → Picking d width groups g n 0 0 from to₀ to₀
  unfolding rows_of
  picking_none = record { within = omega arith; few = omega arith; count = refl; picked = record { long = refl; at = λ k c l. absurd (omega arith); rest = λ p l. refl } }

  pub picking_more : {n i k r : ℕ} {to₀ to₁ to : List X} → Picking d width groups g n i k from to₀ to₁ → i < n → RowPicked d width groups g i k from to₁ to r → Picking d width groups g n (i + 1) r from to₀ to
  picking_more {n} {to₀ = to₀} h l p = p.more n to₀ l h

  pub picking_count : {n i k : ℕ} {to₀ to : List X} → Picking d width groups g n i k from to₀ to → n ≤ i → k ≡ length (rows_of groups g n)
  picking_count {n} {i} {k} h l = let e : i ≡ n = omega (arith, h.within) in h.count ∙ ap (λ j. length (rows_of groups g j)) e

  pub picking_end : {n i k : ℕ} {to₀ to : List X} → Picking d width groups g n i k from to₀ to → n ≤ i → Picked d width (rows_of groups g n) from to₀ to
  picking_end {n} {i} {k} {to₀} {to} h l = let e : i ≡ n = omega (arith, h.within) in subst (λ j. Picked d width (rows_of groups g j) from to₀ to) e h.picked

  -- a row of another group
  pub pick_other : (i k : ℕ) (to : List X) → (get_or groups i 0 ≡ g → ⊥) → RowPicked d width groups g i k from to to k
  pick_other i k to e = record {
    long = refl;
    more = λ n to₀ l h. record {
      within = omega arith;
      few = omega (arith, h.few);
      count = h.count ∙ ap length (sym (rows_same groups g i e));
      picked = rw (rows_same groups g i e) h.picked;
    };
  }

  -- a row of the group
  pub pick_one : (i k : ℕ) (to₁ to : List X) → get_or groups i 0 ≡ g → BlockCopied d width (width * i) (width * k) from to₁ to → RowPicked d width groups g i k from to₁ to (k + 1)
  pick_one i k to₁ to e b = record { long = b.long; more = more }
    where
      more : (n : ℕ) (to₀ : List X) → i < n → Picking d width groups g n i k from to₀ to₁ → Picking d width groups g n (i + 1) (k + 1) from to₀ to
      more n to₀ l h = record {
        within = omega arith;
        few = omega (arith, h.few);
        count = rw (rows_more groups g i e) (omega (arith, snoc_length (rows_of groups g i) i, h.count));
        picked = rw (rows_more groups g i e) (record { long = b.long ∙ h.picked.long; at = λ j c p q. at j c (dec_lt j k) p q; rest = rest });
      }
        where
          at : (j c : ℕ) → Dec (j < k) → j < length (rows_of groups g i ++ (i ∷ [])) → c < width → get_or to (width * j + c) d ≡ get_or from (width * get_or (rows_of groups g i ++ (i ∷ [])) j 0 + c) d
          at j c (yes m) p q =
              b.before (width * j + c) (omega (arith, row_before width j k m)) ∙ h.picked.at j c (omega (arith, h.count)) q ∙ ap (λ x. get_or from (width * x + c) d) (sym (snoc_old (rows_of groups g i) i j (omega (arith, h.count))))
          at j c (no m) p q =
              let s : j ≡ k = omega (arith, snoc_length (rows_of groups g i) i, h.count) in
              ap (λ x. get_or to (width * x + c) d) s ∙ b.here c q ∙ ap (λ x. get_or from (width * x + c) d) (sym (ap (λ x. get_or (rows_of groups g i ++ (i ∷ [])) x 0) (s ∙ h.count) ∙ snoc_new (rows_of groups g i) i))

          rest : (p : ℕ) → width * length (rows_of groups g i ++ (i ∷ [])) ≤ p → get_or to p d ≡ get_or to₀ p d
          rest p m =
              let s : length (rows_of groups g i ++ (i ∷ [])) ≡ suc k = omega (arith, snoc_length (rows_of groups g i) i, h.count) in
              let t : width * length (rows_of groups g i) ≡ width * k = ap (λ x. width * x) (sym h.count) in
              let u = ap (λ x. width * x) s in
              b.behind p (omega (arith, u, mul-suc width k)) ∙ h.picked.rest p (omega (arith, u, mul-suc width k, t))

-- ---- putting back
module _ {X : Type 0} {d : X} {width : ℕ} {groups : List ℕ} {g : ℕ} {from : List X} where
  pub scattering_none : {n : ℕ} {to₀ : List X} → Scattering d width groups g n 0 0 from to₀ to₀
  unfolding rows_of
  scattering_none = record { within = omega arith; few = omega arith; count = refl; scattered = record { long = refl; at = λ k c l. absurd (omega arith); others = λ i c l e. refl } }

  pub scattering_more : {n i k r : ℕ} {to₀ to₁ to : List X} → Scattering d width groups g n i k from to₀ to₁ → i < n → RowScattered d width groups g i k from to₁ to r → Scattering d width groups g n (i + 1) r from to₀ to
  scattering_more {n} {to₀ = to₀} h l p = p.more n to₀ l h

  pub scattering_end : {n i k : ℕ} {to₀ to : List X} → Scattering d width groups g n i k from to₀ to → n ≤ i → Scattered d width groups g n from to₀ to
  scattering_end {n} {i} {k} {to₀} {to} h l = let e : i ≡ n = omega (arith, h.within) in subst (λ j. Scattered d width groups g j from to₀ to) e h.scattered

  -- a row of another group
  pub scatter_other : (i k : ℕ) (to : List X) → (get_or groups i 0 ≡ g → ⊥) → RowScattered d width groups g i k from to to k
  scatter_other i k to e = record {
    long = refl;
    more = λ n to₀ l h. record {
      within = omega arith;
      few = omega (arith, h.few);
      count = h.count ∙ ap length (sym (rows_same groups g i e));
      scattered = record { long = h.scattered.long; at = rw (rows_same groups g i e) h.scattered.at; others = λ j c q m. h.scattered.others j c q (λ u. m (omega arith)) };
    };
  }

  -- a row of the group
  pub scatter_one : (i k : ℕ) (to₁ to : List X) → get_or groups i 0 ≡ g → BlockCopied d width (width * k) (width * i) from to₁ to → RowScattered d width groups g i k from to₁ to (k + 1)
  scatter_one i k to₁ to e b = record { long = b.long; more = more }
    where
      more : (n : ℕ) (to₀ : List X) → i < n → Scattering d width groups g n i k from to₀ to₁ → Scattering d width groups g n (i + 1) (k + 1) from to₀ to
      more n to₀ l h = record {
        within = omega arith;
        few = omega (arith, h.few);
        count = rw (rows_more groups g i e) (omega (arith, snoc_length (rows_of groups g i) i, h.count));
        scattered = record { long = b.long ∙ h.scattered.long; at = rw (rows_more groups g i e) (λ j c p q. at j c (dec_lt j k) p q); others = λ j c q m. others j c q m (dec_lt j i) (ℕ_discrete j i) };
      }
        where
          at : (j c : ℕ) → Dec (j < k) → j < length (rows_of groups g i ++ (i ∷ [])) → c < width → get_or to (width * get_or (rows_of groups g i ++ (i ∷ [])) j 0 + c) d ≡ get_or from (width * j + c) d
          at j c (yes m) p q =
              let o : j < length (rows_of groups g i) = omega (arith, h.count) in
              ap (λ x. get_or to (width * x + c) d) (snoc_old (rows_of groups g i) i j o)
              ∙ b.before (width * get_or (rows_of groups g i) j 0 + c) (omega (arith, row_before width (get_or (rows_of groups g i) j 0) i ((in_order groups g i).below j o)))
              ∙ h.scattered.at j c o q
          at j c (no m) p q =
              let s : j ≡ k = omega (arith, snoc_length (rows_of groups g i) i, h.count) in
              ap (λ x. get_or to (width * x + c) d) (ap (λ x. get_or (rows_of groups g i ++ (i ∷ [])) x 0) (s ∙ h.count) ∙ snoc_new (rows_of groups g i) i) ∙ b.here c q ∙ ap (λ x. get_or from (width * x + c) d) (sym s)

          others : (j c : ℕ) → c < width → (j < i + 1 → get_or groups j 0 ≡ g → ⊥) → Dec (j < i) → Dec (j ≡ i) → get_or to (width * j + c) d ≡ get_or to₀ (width * j + c) d
          others j c q m (yes u) v = b.before (width * j + c) (omega (arith, row_before width j i u)) ∙ h.scattered.others j c q (λ t. m (omega arith))
          others j c q m (no u) (yes v) = absurd (m (omega arith) (ap (λ x. get_or groups x 0) v ∙ e))
          others j c q m (no u) (no v) = b.behind (width * j + c) (omega (arith, row_before width i j (omega arith))) ∙ h.scattered.others j c q (λ t. absurd (omega arith))

-- ---- the rows as a list of their own
module _ {X : Type 0} (d : X) (width : ℕ) where
  -- place p of a list of rows is number p % width of row p / width
  place : (p n : ℕ) → p < width * n → (p / width < n) × (p % width < width)
  place p n h = go (ℕ_discrete width 0) (dec_lt (p / width) n)
    where
      go : Dec (width ≡ 0) → Dec (p / width < n) → (p / width < n) × (p % width < width)
      go (yes e) q = absurd (let z : width * n ≡ 0 = rw e (zero-mul n) in omega arith)
      go (no e) (yes q) = (q, mod-lt p (omega arith))
      go (no e) (no q) = absurd (let b : n ≤ p / width = omega arith in let m : width * n ≤ width * (p / width) = mul-le-mul_left width b in omega (arith, div-add-mod p width))

  pub picked_list : (rows : List ℕ) (from to : List X) → length to ≡ width * length rows → ((k c : ℕ) → k < length rows → c < width → get_or to (width * k + c) d ≡ get_or from (width * get_or rows k 0 + c) d) → to ≡ pick_rows d width rows from
  unfolding pick_rows
  picked_list rows from to e h =
      tabulated d _ (width * length rows) to e
      (λ p l. let (a, b) = place p (length rows) l in ap (λ q. get_or to q d) (sym (div-add-mod p width)) ∙ h (p / width) (p % width) a b)

  pub pick_same : (rows : List ℕ) (l m : List X) → ((k c : ℕ) → k < length rows → c < width → get_or l (width * get_or rows k 0 + c) d ≡ get_or m (width * get_or rows k 0 + c) d) → pick_rows d width rows l ≡ pick_rows d width rows m
  unfolding pick_rows
  pick_same rows l m h = tabulate_same _ _ (width * length rows) (λ p b. let (x, y) = place p (length rows) b in h (p / width) (p % width) x y)

  pub pick_long : (rows : List ℕ) (l : List X) → length (pick_rows d width rows l) ≡ width * length rows
  unfolding pick_rows
  pick_long rows l = length_tabulate _ (width * length rows)

  pub picked_are : (rows : List ℕ) (from to₀ to : List X) → length to₀ ≡ width * length rows → Picked d width rows from to₀ to → to ≡ pick_rows d width rows from
  picked_are rows from to₀ to e h = picked_list rows from to (h.long ∙ e) h.at

  -- put back, they are what was put, and the rows of other groups stay
  pub put_all : (groups : List ℕ) (g n : ℕ) (from to₀ to : List X) → length from ≡ width * length (rows_of groups g n) → Scattered d width groups g n from to₀ to → Put d width groups g n from to₀ to
  put_all groups g n from to₀ to e h = record {
    long = h.long;
    here = sym (picked_list (rows_of groups g n) to from e (λ k c a b. sym (h.at k c a b)));
    others = λ j q. pick_same (rows_of groups j n) to to₀ (λ k c a b. h.others _ c b (λ l f. q (sym ((in_order groups j n).group k a) ∙ f)));
  }

module _ {X : Type 0} {d : X} {width : ℕ} {groups : List ℕ} {g : ℕ} {from : List X} where
  pub picking_list : {n i k : ℕ} {to₀ to : List X} → Picking d width groups g n i k from to₀ to → n ≤ i → length to₀ ≡ width * length (rows_of groups g n) → to ≡ pick_rows d width (rows_of groups g n) from
  picking_list {n} {to₀ = to₀} {to} h l e = picked_are d width (rows_of groups g n) from to₀ to e (picking_end h l)

  pub scattering_put : {n i k : ℕ} {to₀ to : List X} → Scattering d width groups g n i k from to₀ to → n ≤ i → length from ≡ width * length (rows_of groups g n) → Put d width groups g n from to₀ to
  scattering_put {n} {to₀ = to₀} {to} h l e = put_all d width groups g n from to₀ to e (scattering_end h l)

-- ---- room for one row more
pub room_pick : {X : Type 0} {d : X} {width : ℕ} {groups : List ℕ} {g n i k : ℕ} {from to₀ to : List X} → Picking d width groups g n i k from to₀ to → i < n → length to₀ ≡ width * length (rows_of groups g n) → RoomFor groups g i width k (length to)
room_pick {width = width} {groups} {g} {n} {i} {k} h l e = record { one = λ q. omega (arith, row_before width k (length (rows_of groups g n)) (omega (arith, h.count, rows_few groups g i n q l)), h.picked.long) }

pub room_put : {X : Type 0} {d : X} {width : ℕ} {groups : List ℕ} {g n i k : ℕ} {from to₀ to : List X} → Scattering d width groups g n i k from to₀ to → i < n → length from ≡ width * length (rows_of groups g n) → RoomFor groups g i width k (length from)
room_put {width = width} {groups} {g} {n} {i} {k} h l e = record { one = λ q. omega (arith, row_before width k (length (rows_of groups g n)) (omega (arith, h.count, rows_few groups g i n q l))) }

pub room_one : {groups : List ℕ} {g i width k room : ℕ} → RoomFor groups g i width k room → get_or groups i 0 ≡ g → width * k + width ≤ room
room_one h e = h.one e

-- ---- how many there are
module _ {groups : List ℕ} {g : ℕ} where
  pub counting_none : {n : ℕ} → Counting groups g n 0 0
  unfolding rows_of
  counting_none = record { within = omega arith; few = omega arith; count = refl }

  pub counting_more : {n i k r : ℕ} → Counting groups g n i k → i < n → RowCounted groups g i k r → Counting groups g n (i + 1) r
  counting_more {n} h l p = p.more n l h

  pub count_one : (i k : ℕ) → get_or groups i 0 ≡ g → RowCounted groups g i k (k + 1)
  count_one i k e = record { more = λ n l h. record { within = omega arith; few = omega (arith, h.few); count = rw (rows_more groups g i e) (omega (arith, snoc_length (rows_of groups g i) i, h.count)) } }

  pub count_other : (i k : ℕ) → (get_or groups i 0 ≡ g → ⊥) → RowCounted groups g i k k
  count_other i k e = record { more = λ n l h. record { within = omega arith; few = omega (arith, h.few); count = h.count ∙ ap length (sym (rows_same groups g i e)) } }

  pub counting_end : {n i k : ℕ} → Counting groups g n i k → n ≤ i → k ≡ length (rows_of groups g n)
  counting_end {n} {i} {k} h l = let e : i ≡ n = omega (arith, h.within) in h.count ∙ ap (λ j. length (rows_of groups g j)) e

-- ---- rows that bear a mark
module _ {X : Type 0} {d : X} {width : ℕ} {marks : List ℕ} {mark : ℕ} {from : List X} where
  pub marked_none : {to₀ : List X} → Marked d width marks mark 0 from to₀ to₀
  marked_none = record { long = refl; at = λ b c l. absurd (omega arith); others = λ b c l e. refl }

  pub marked_more : {i : ℕ} {to₀ to₁ to : List X} → Marked d width marks mark i from to₀ to₁ → RowMarked d width marks mark i from to₁ to → Marked d width marks mark (i + 1) from to₀ to
  marked_more {to₀ = to₀} h r = r.more to₀ h

  pub mark_other : (i : ℕ) (to : List X) → (get_or marks i 0 ≡ mark → ⊥) → RowMarked d width marks mark i from to to
  mark_other i to e = record { long = refl; more = λ to₀ h. record { long = h.long; at = λ b c l m q. at to₀ h b c l m q (dec_lt b i); others = λ b c m q. h.others b c m (λ l. q (omega arith)) } }
    where
      at : (to₀ : List X) → Marked d width marks mark i from to₀ to → (b c : ℕ) → b < i + 1 → c < width → get_or marks b 0 ≡ mark → Dec (b < i) → get_or to (width * b + c) d ≡ get_or from (width * b + c) d
      at to₀ h b c l m q (yes p) = h.at b c p m q
      at to₀ h b c l m q (no p) = let s : b ≡ i = omega arith in absurd (e (ap (λ x. get_or marks x 0) (sym s) ∙ q))

  pub mark_one : (i : ℕ) (to₁ to : List X) → get_or marks i 0 ≡ mark → BlockCopied d width (width * i) (width * i) from to₁ to → RowMarked d width marks mark i from to₁ to
  mark_one i to₁ to e k = record { long = k.long; more = λ to₀ h. record { long = k.long ∙ h.long; at = λ b c l m q. at to₀ h b c l m q (dec_lt b i); others = λ b c m q. others to₀ h b c m q (dec_lt b i) (ℕ_discrete b i) } }
    where
      at : (to₀ : List X) → Marked d width marks mark i from to₀ to₁ → (b c : ℕ) → b < i + 1 → c < width → get_or marks b 0 ≡ mark → Dec (b < i) → get_or to (width * b + c) d ≡ get_or from (width * b + c) d
      at to₀ h b c l m q (yes p) = k.before (width * b + c) (omega (arith, row_before width b i p)) ∙ h.at b c p m q
      at to₀ h b c l m q (no p) = let s : b ≡ i = omega arith in rw s (k.here c m)

      others : (to₀ : List X) → Marked d width marks mark i from to₀ to₁ → (b c : ℕ) → c < width → (b < i + 1 → get_or marks b 0 ≡ mark → ⊥) → Dec (b < i) → Dec (b ≡ i) → get_or to (width * b + c) d ≡ get_or to₀ (width * b + c) d
      others to₀ h b c m q (yes p) s = k.before (width * b + c) (omega (arith, row_before width b i p)) ∙ h.others b c m (λ l. q (omega arith))
      others to₀ h b c m q (no p) (yes s) = absurd (q (omega arith) (ap (λ x. get_or marks x 0) s ∙ e))
      others to₀ h b c m q (no p) (no s) = k.behind (width * b + c) (omega (arith, row_before width i b (omega arith))) ∙ h.others b c m (λ l. absurd (omega arith))

pub ruleset picks = (copying_none, copying_more, copying_end, picking_none, picking_more, picking_list, pick_other, pick_one, scattering_none, scattering_more, scattering_put, scatter_other, scatter_one, room_pick, room_put, room_one, counting_none, counting_more, counting_end, count_one, count_other, marked_none, marked_more, mark_other, mark_one, row_fits, loops)
