-- A loop that writes a text a turn: its invariant `Writing`, and what that comes to at each of its needs. Assumes nothing.
use Prim.Native.Nat.{ℕ, suc, ◌+◌, ◌<◌, ◌≤◌}
use mathlib.Core.Path.{◌≡◌}
use mathlib.Core.List.{List}
use native.Mathlib.Omega.{arith}
use native.Mathlib.Numerals.{add-one}
use native.Mathlib.Decide.{le_ind}
use lib.ListN.{length, length-append}
use Rattle.listing.specs.Written.{Room, Wrote, pieces}
use Rattle.listing.proofs.Joined.{length_wrote, wrote_none, room_rest, wrote_join}

-- of n texts those below i are written
pub record Writing (out : List ℕ) (at : ℕ) (g : ℕ → List ℕ) (n i : ℕ) (out' : List ℕ) (next : ℕ) : Type 0 where
  pub within : i ≤ n
  pub room : Room out at (pieces g n)
  pub wrote : Wrote out at (pieces g i) out' next

pieces_longer : (g : ℕ → List ℕ) (i n : ℕ) → i ≤ n → length (pieces g i) ≤ length (pieces g n)
unfolding pieces
pieces_longer g i n h = le_ind (λ m. length (pieces g i) ≤ length (pieces g m)) (omega arith) (λ m _ p. omega (arith, length-append (pieces g m) (g m))) n h

module _ {out : List ℕ} {at : ℕ} {g : ℕ → List ℕ} {n : ℕ} where
  pub writing_none : Room out at (pieces g n) → Writing out at g n 0 out at
  unfolding pieces
  writing_none h = record { within = omega arith; room = h; wrote = wrote_none out at (let f = h.fits in omega arith) }

  module _ {i : ℕ} {out₁ : List ℕ} {mid : ℕ} (w : Writing out at g n i out₁ mid) where
    -- the bytes are as many as before
    pub writing_length : length out₁ ≡ length out
    writing_length = length_wrote w.wrote

    pub writing_room : i < n → Room out₁ mid (g i)
    unfolding pieces
    writing_room l = room_rest (let f = w.room.fits in let e = pieces_longer g (suc i) n l in record { fits = omega arith }) w.wrote

    pub writing_more : {out₂ : List ℕ} {end : ℕ} → i < n → Wrote out₁ mid (g i) out₂ end → Writing out at g n (i + 1) out₂ end
    unfolding pieces
    writing_more l v = record { within = omega arith; room = w.room; wrote = rw add-one (wrote_join w.wrote v) }

    pub writing_end : n ≤ i → Wrote out at (pieces g n) out₁ mid
    writing_end l = let e : i ≡ n = omega arith in rw e at w.wrote
