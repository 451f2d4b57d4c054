-- The work memory of the closing check: what is known of it as a whole.
use Rattle.std.specs.Prelude.{ℕ, ◌*◌, ◌≡◌, Bool, true, false, List, length, Float}
use Rattle.loops.specs.Cleared.{cleared}
use Rattle.check_refusals.specs.declared.fit.WorkLengths.{WorkLengths}

-- the impulses of the list and those of its sizes, then the responses in their place; each row's value, then its reach; and its value on sizes
pub record CheckMemory : Type 0 where
  pub impulses : List Float
  pub size_impulses : List Float
  pub values : List Float
  pub sizes : List Float

-- the lent lists, in their order
abbrev pub memory_of : List Float → List Float → List Float → List Float → CheckMemory
memory_of impulses size_impulses values sizes = record { impulses = impulses; size_impulses = size_impulses; values = values; sizes = sizes }

abbrev pub work_lengths : CheckMemory → WorkLengths
work_lengths m = record { impulses = length m.impulses; size_impulses = length m.size_impulses; values = length m.values; sizes = length m.sizes }

-- the lengths are those that the counts call for: what refusal 3 has passed
pub record Room (n b : ℕ) (row_numbers : List Float) (row_words : List ℕ) (massNumbers list : List Float) (m : CheckMemory) : Type 0 where
  pub numbers : length row_numbers ≡ 27 * n
  pub words : length row_words ≡ 8 * n
  pub masses : length massNumbers ≡ 10 * b
  pub multipliers : length list ≡ n
  pub impulses : length m.impulses ≡ 6 * b
  pub size_impulses : length m.size_impulses ≡ 6 * b
  pub values : length m.values ≡ n
  pub sizes : length m.sizes ≡ n

-- cleared, as long as it is
abbrev pub cleared_memory : CheckMemory → CheckMemory
cleared_memory m = record { impulses = cleared m.impulses; size_impulses = cleared m.size_impulses; values = cleared m.values; sizes = cleared m.sizes }

-- document 01: "Work memory is +0.0 (integers 0) after each call except one refused by 1, 2 or 3, which writes nothing."
pub record After (fits : Bool) (before after : CheckMemory) : Type 0 where
  pub emptied : fits ≡ true → after ≡ cleared_memory before
  pub untouched : fits ≡ false → after ≡ before
