-- Two texts written one after the other are one text: `wrote_join`, and what it needs and gives at each call of a function that writes. Assumes nothing.
use Prim.Native.Nat.{ℕ, ◌+◌, ◌-◌, ◌<◌, ◌≤◌}
use mathlib.Core.Path.{◌≡◌, refl, sym, ap, ◌∙◌}
use mathlib.Core.List.{List, [], ◌∷◌, ◌++◌, append_assoc, append-nil}
use native.Mathlib.Omega.{arith}
use native.Mathlib.Nat.{add-zero}
use native.Mathlib.Numerals.{add-one}
use lib.ListN.{length, take, drop, set, length-append, length-drop, take-append-drop}
use lib.Seq.{length-take-le, take_at, drop_at, drop-drop, set_split}
use borrow.Rule.Slice.PartMut.{put_mid}
use Rattle.listing.specs.Written.{placed, Room, Wrote}

-- ---- one text

module _ {out : List ℕ} {at : ℕ} {text out' : List ℕ} {end : ℕ} (w : Wrote out at text out' end) where
  head_long : length (take at out ++ text) ≡ end
  head_long = let h = w.within in let e = w.after in length-append (take at out) text ∙ omega (arith, length-take-le at out (omega arith))

  take_wrote : take end out' ≡ take at out ++ text
  unfolding placed
  take_wrote = ap (take end) w.bytes ∙ take_at (take at out ++ text) (drop (at + length text) out) end head_long

  drop_wrote : drop end out' ≡ drop end out
  unfolding placed
  drop_wrote = ap (drop end) w.bytes ∙ drop_at (take at out ++ text) (drop (at + length text) out) end head_long ∙ ap (λ k. drop k out) (sym w.after)

  -- as many bytes as before
  pub length_wrote : length out' ≡ length out
  unfolding placed
  length_wrote =
      let h = w.within in
      ap length w.bytes ∙ length-append (take at out ++ text) (drop (at + length text) out) ∙ omega (arith, head_long, w.after, length-drop (at + length text) out)

-- what stands before the end, where the text was written at the front: the text
pub wrote_front : {out text out' : List ℕ} {end : ℕ} → Wrote out 0 text out' end → take end out' ≡ text
wrote_front w = take_wrote w

module _ (out : List ℕ) (at : ℕ) where
  pub wrote_none : at ≤ length out → Wrote out at [] out at
  unfolding placed
  wrote_none h = record { within = omega arith; bytes = sym (ap (λ l. l ++ drop (at + 0) out) (append-nil (take at out)) ∙ ap (λ k. take at out ++ drop k out) (add-zero at) ∙ take-append-drop at out); after = omega arith }

  pub wrote_one : (b : ℕ) → at < length out → Wrote out at (b ∷ []) (set out at b) (at + 1)
  unfolding placed
  wrote_one b h = record { within = omega arith; bytes = set_split out at b h ∙ sym (append_assoc (take at out) (b ∷ []) (drop (at + 1) out) ∙ ap (λ k. take at out ++ (b ∷ drop k out)) (add-one at)); after = refl }

  -- a text copied over a part of the bytes
  pub wrote_part : {text part : List ℕ} → Room out at text → part ≡ text → Wrote out at text (put_mid at (at + length text - at) out part) (at + length text)
  unfolding placed
  wrote_part {text} r e =
      let k : at + length text - at ≡ length text = omega arith in
      record { within = r.fits; bytes = rw (e, k, drop-drop) (sym (append_assoc (take at out) text (drop (at + length text) out))); after = refl }

-- a byte that a call has answered
pub room_byte : {out : List ℕ} {at : ℕ} (a : ℕ) {b : ℕ} → Room out at (a ∷ []) → Room out at (b ∷ [])
room_byte a h = record { fits = h.fits }

pub wrote_byte : {out : List ℕ} {at a b : ℕ} {out' : List ℕ} {end : ℕ} → a ≡ b → Wrote out at (a ∷ []) out' end → Wrote out at (b ∷ []) out' end
wrote_byte e w = rw e at w

-- a text by another name
pub room_as : {out : List ℕ} {at : ℕ} {a b : List ℕ} → a ≡ b → Room out at b → Room out at a
room_as e h = rw e h

pub wrote_as : {out : List ℕ} {at : ℕ} {a b out' : List ℕ} {end : ℕ} → a ≡ b → Wrote out at a out' end → Wrote out at b out' end
wrote_as e w = rw e at w

-- ---- one text after the other

pub room_first : {out : List ℕ} {at : ℕ} {a : List ℕ} (b : List ℕ) → Room out at (a ++ b) → Room out at a
room_first {a = a} b h = let e = length-append a b in record { fits = omega arith }

module _ {out : List ℕ} {at : ℕ} {a b : List ℕ} where
  module _ {out₁ : List ℕ} {mid : ℕ} where
    pub room_rest : Room out at (a ++ b) → Wrote out at a out₁ mid → Room out₁ mid b
    room_rest h w = let e = length-append a b in let l = length_wrote w in let p = w.after in record { fits = omega arith }

    pub wrote_join : {out₂ : List ℕ} {end : ℕ} → Wrote out at a out₁ mid → Wrote out₁ mid b out₂ end → Wrote out at (a ++ b) out₂ end
    unfolding placed
    wrote_join {out₂} {end} w v =
        let e = length-append a b in
        let l = length_wrote w in
        let p = w.after in
        let q = v.within in
        let r = v.after in
        let far : mid + length b ≡ at + length (a ++ b) = omega arith in
        record {
          within = omega arith;
          bytes = v.bytes ∙ ap (λ h. h ++ b ++ drop (mid + length b) out₁) (take_wrote w)
              ∙ ap (λ t. take at out ++ a ++ b ++ t) (sym (drop-drop (length b) mid out₁) ∙ ap (drop (length b)) (drop_wrote w) ∙ drop-drop (length b) mid out ∙ ap (λ k. drop k out) far)
              ∙ ap (λ h. h ++ drop (at + length (a ++ b)) out) (append_assoc (take at out) a b);
          after = omega arith;
        }
