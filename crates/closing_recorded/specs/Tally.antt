-- The counts: of each answer, and of the cases that differ.
use Rattle.std.specs.Prelude.{ℕ, ◌+◌, ◌%◌, ◌^◌, Bool, false, cond, not, ◌||◌, ◌==◌, nat_le}
use Rattle.closing_recorded.specs.declared.tally.Seen.{Seen}
use Rattle.closing_recorded.specs.declared.tally.Tally.{Tally}

-- an answer that no check has
abbrev pub malformed : Seen
malformed = record { answer = 1000; same = false }

-- one more where the test holds
unfoldable pub more_of : ℕ → Bool → ℕ
more_of n b = cond b ((n + 1) % 2 ^ 32) n

abbrev pub none : Tally
none = record { closed = 0; «open» = 0; refused_3 = 0; refused_4 = 0; refused_27 = 0; refused_6 = 0; refused_7 = 0; refused_18 = 0; other = 0; differ = 0 }

unfoldable pub with_of : Tally → Seen → Tally
with_of t s = record {
  closed = more_of t.closed (s.answer == 1);
  «open» = more_of t.«open» (s.answer == 0);
  refused_3 = more_of t.refused_3 (s.answer == 3);
  refused_4 = more_of t.refused_4 (s.answer == 4);
  refused_27 = more_of t.refused_27 (s.answer == 27);
  refused_6 = more_of t.refused_6 (s.answer == 6);
  refused_7 = more_of t.refused_7 (s.answer == 7);
  refused_18 = more_of t.refused_18 (s.answer == 18);
  other = more_of t.other (not (nat_le s.answer 1 || (((((s.answer == 3 || s.answer == 4) || s.answer == 27) || s.answer == 6) || s.answer == 7) || s.answer == 18)));
  differ = more_of t.differ (not s.same);
}
