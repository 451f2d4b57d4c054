-- What is read so far, of a record and of a group. Assumes nothing.
use Prim.Native.Nat.{ℕ, ◌+◌, ◌*◌, ◌/◌, ◌<◌, ◌≤◌}
use mathlib.Core.Path.{◌≡◌, refl, ap, subst, ◌∙◌}
use mathlib.Core.List.{List}
use native.Mathlib.Nat.{mul-le-mul}
use native.Mathlib.Numerals.{add-one}
use native.Mathlib.Omega.{arith}
use lib.ListN.{length, set, length-set}
use Rattle.packed_list.specs.Packed.{code_at, size_of, coded_of, before_of, word_read, record_of, record_read, group_of}

-- ---- a record, word by word: k words of it are read
module _ (list : List ℕ) (at size from : ℕ) (words₀ : List ℕ) where
  pub record Reading (k place : ℕ) (words : List ℕ) : Type 0 where
    pub within : k ≤ size
    pub long : length words ≡ length words₀
    pub near : place ≤ at + (size + 3) / 4 + 8 * k
    pub read : (place, words) ≡ record_of list at size from words₀ k

  pub reading_none : Reading 0 (at + (size + 3) / 4) words₀
  unfolding record_of
  reading_none = record { within = omega arith; long = refl; near = omega arith; read = refl }

  pub reading_more : {k place code before word bytes : ℕ} {words words' : List ℕ} → Reading k place words → k < size → code ≡ code_at list at k → before ≡ before_of words size (from + k) → word ≡ coded_of list place code before → (bytes ≡ size_of code) × (bytes ≤ 8) → words' ≡ set words (from + k) word
      → Reading (k + 1) (place + bytes) words'
  unfolding record_of word_read
  reading_more {k} {place} {code} {before} {word} {bytes} {words} {words'} h l c b w (s, t) p =
      record { within = omega arith; long = ap length p ∙ length-set words (from + k) word ∙ h.long; near = omega (arith, h.near); read = rw add-one (one ∙ ap (word_read list at size from k) h.read) }
    where
      one : (place + bytes, words') ≡ word_read list at size from k (place, words)
      one = rw (p, s, w, b, c)

  pub reading_end : {k place : ℕ} {words : List ℕ} → Reading k place words → size ≤ k → (place, words) ≡ record_of list at size from words₀ size
  reading_end {k} {place} {words} h l = let e : k ≡ size = omega (arith, h.within) in subst (λ (x : ℕ). (place, words) ≡ record_of list at size from words₀ x) e h.read

  pub reading_near : {k place : ℕ} {words : List ℕ} → Reading k place words → place ≤ at + 9 * size
  reading_near h = omega (arith, h.near, h.within)

-- ---- a group, record by record: k records of it are read
module _ (list : List ℕ) (at size : ℕ) (words₀ : List ℕ) where
  pub record Grouping (count k from place : ℕ) (words : List ℕ) : Type 0 where
    pub within : k ≤ count
    pub long : length words ≡ length words₀
    pub begins : from ≡ size * k
    pub near : place ≤ at + 9 * from
    pub read : (place, words) ≡ group_of list at size words₀ k

  pub grouping_none : (count : ℕ) → Grouping count 0 0 at words₀
  unfolding group_of
  grouping_none count = record { within = omega arith; long = refl; begins = omega arith; near = omega arith; read = refl }

  pub grouping_more : {count k from place r : ℕ} {words words' : List ℕ} → Grouping count k from place words → k < count → length words' ≡ length words → ((r, words') ≡ record_of list place size from words size) × (r ≤ place + 9 * size) → Grouping count (k + 1) (from + size) r words'
  unfolding group_of record_read
  grouping_more {count} {k} {from} {place} {r} {words} {words'} h l g (e, t) =
      record { within = omega arith; long = g ∙ h.long; begins = omega (arith, h.begins); near = omega (arith, h.near); read = rw add-one (one ∙ ap (record_read list size k) h.read) }
    where
      one : (r, words') ≡ record_read list size k (place, words)
      one = e ∙ rw h.begins

  pub grouping_room : {count k from place : ℕ} {words : List ℕ} → Grouping count k from place words → k < count → length words₀ ≡ size * count → from + size ≤ length words
  grouping_room {count} {k} {from} h l e =
      let m : size * (k + 1) ≤ size * count = mul-le-mul {n₁ = size} {m₁ = k + 1} {n₂ = size} {m₂ = count} (omega arith) (omega arith) in omega (arith, h.long, h.begins)

  pub grouping_end : {count k from place : ℕ} {words : List ℕ} → Grouping count k from place words → count ≤ k → (place, words) ≡ group_of list at size words₀ count
  grouping_end {count} {k} {from} {place} {words} h l = let q : k ≡ count = omega (arith, h.within) in subst (λ (x : ℕ). (place, words) ≡ group_of list at size words₀ x) q h.read

  pub grouping_near : {count k from place : ℕ} {words : List ℕ} → Grouping count k from place words → length words₀ ≡ size * count → place ≤ at + 9 * length words₀
  grouping_near {count} {k} {from} h e =
      let m : size * k ≤ size * count = mul-le-mul {n₁ = size} {m₁ = k} {n₂ = size} {m₂ = count} (omega arith) h.within in omega (arith, h.near, h.begins)

  -- places and lengths are far below 2^32
  pub grouping_place : {count k from place : ℕ} {words : List ℕ} → Grouping count k from place words → k < count → (at < 4000000000) × (length words₀ ≡ size * count) × (length words₀ ≤ 20000) → place + 9 * size < 4294967288
  grouping_place h l (a, e, b) = omega (arith, h.near, grouping_room h l e, h.long)

  pub grouping_short : {count k from place : ℕ} {words : List ℕ} → Grouping count k from place words → (at < 4000000000) × (length words₀ ≡ size * count) × (length words₀ ≤ 20000) → length words < 4294967296
  grouping_short h (a, e, b) = omega (arith, h.long)

  pub grouping_next : {count k from place : ℕ} {words : List ℕ} → Grouping count k from place words → k < count → (at < 4000000000) × (length words₀ ≡ size * count) × (length words₀ ≤ 20000) → from + size < 18446744073709551616
  grouping_next h l (a, e, b) = omega (arith, grouping_room h l e, h.long)
