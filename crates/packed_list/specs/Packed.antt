-- Packed records. oracle/README.md: "A record of k words is ⌈k/4⌉ bytes of codes, then what the codes call for, word by word. Word i has the two bits 2·(i mod 4) and 2·(i mod 4)+1 of code byte ⌊i/4⌋". A byte past the end of the list counts as 0.
use Rattle.std.specs.Prelude.{ℕ, zero, suc, ◌+◌, ◌*◌, ◌-◌, ◌/◌, ◌%◌, ◌^◌, cond, List, eqb, ltb, get_or, set}
use Rattle.little_endian.specs.Words.{half_at, word_at}

-- word k of the four that a byte of codes is for
unfoldable pub code_in : ℕ → ℕ → ℕ
code_in codes k = codes / 4 ^ k % 4

-- word i of the record at `at`
unfoldable pub code_at : List ℕ → ℕ → ℕ → ℕ
code_at list at i = code_in (half_at list (at + i / 4) % 256) (i % 4)

-- "bytes that follow": none, 2, 8, 2
unfoldable pub size_of : ℕ → ℕ
size_of code = cond (eqb code 0) 0 (cond (eqb code 2) 8 2)

-- "the word": 0, word i of the record before; 2, the eight bytes; 1, "these are its top 16 bits, the others are 0"; 3, "these are its low 16 bits"
unfoldable pub coded_of : List ℕ → ℕ → ℕ → ℕ → ℕ
coded_of list at code before = cond (eqb code 0) before (cond (eqb code 2) (word_at list at) (cond (eqb code 1) (281474976710656 * (half_at list at % 65536)) (half_at list at % 65536)))

-- "word i of the record before in this group; 0 in the first record", of records of `size` words
unfoldable pub before_of : List ℕ → ℕ → ℕ → ℕ
before_of words size i = cond (ltb i size) 0 (get_or words (i - size) 0)

-- ---- with the place of the next bytes goes the list of the group's words

-- word k of the record at `at`, which is the group's word `from + k`
unfoldable pub word_read : List ℕ → ℕ → ℕ → ℕ → ℕ → ℕ × List ℕ → ℕ × List ℕ
word_read list at size from k (place, words) = (place + size_of (code_at list at k), set words (from + k) (coded_of list place (code_at list at k) (before_of words size (from + k))))

-- the first k words of the record
unfoldable pub record_of : List ℕ → ℕ → ℕ → ℕ → List ℕ → ℕ → ℕ × List ℕ
record_of list at size from words zero = (at + (size + 3) / 4, words)
record_of list at size from words (suc k) = word_read list at size from k (record_of list at size from words k)

-- record k of the group
unfoldable pub record_read : List ℕ → ℕ → ℕ → ℕ × List ℕ → ℕ × List ℕ
record_read list size k (place, words) = record_of list place size (size * k) words size

-- its first k records
unfoldable pub group_of : List ℕ → ℕ → ℕ → List ℕ → ℕ → ℕ × List ℕ
group_of list at size words zero = (at, words)
group_of list at size words (suc k) = record_read list size k (group_of list at size words k)
