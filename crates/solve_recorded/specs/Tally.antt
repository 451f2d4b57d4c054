-- The counts of what the jobs show.
use Rattle.std.specs.Prelude.{ℕ, zero, suc, ◌+◌, ◌%◌, Bool, true, false, cond, not, List, length, ◌==◌, nat_lt}
use Rattle.kapitsa_joint.specs.declared.kind.Kind.{Kind}
use Rattle.kapitsa_joint.specs.declared.kind.Kind.TheVariants as kinds
use Rattle.little_endian.specs.Words.{half_at, word_at}
use Rattle.solve_replay.specs.Seen.{job_seen}
use Rattle.solve_replay.specs.declared.answer.Seen.{Seen}
use Rattle.solve_recorded.specs.declared.tally.Count.{Count}

-- one more where the test holds, in 32 bits
unfoldable pub more_of : ℕ → Bool → ℕ
more_of n holds = cond holds ((n + 1) % 4294967296) n

unfoldable pub with_of : Count → Seen → Count
with_of c s = record {
  jobs = more_of c.jobs true;
  met = more_of c.met (s.outcome == 2);
  «open» = more_of c.«open» (s.outcome == 1);
  refused = more_of c.refused (s.outcome == 0);
  differ = more_of c.differ (not s.same);
  end = s.end;
}

-- something that should be there is not
unfoldable pub missing_of : Count → Count
missing_of c = record { jobs = c.jobs; met = c.met; «open» = c.«open»; refused = c.refused; differ = more_of c.differ true; end = c.end }

unfoldable pub from_of : Count → ℕ → Count
from_of c at = record { jobs = c.jobs; met = c.met; «open» = c.«open»; refused = c.refused; differ = c.differ; end = at }

unfoldable pub closed_of : Count → ℕ → Count
closed_of c size = record { jobs = c.jobs; met = c.met; «open» = c.«open»; refused = c.refused; differ = more_of c.differ (not (c.end == size)); end = c.end }

abbrev pub none_yet : Count
none_yet = record { jobs = 0; met = 0; «open» = 0; refused = 0; differ = 0; end = 0 }

-- ---- a list: oracle/README.md, "8 KAPITSA1; 4 u32, number of jobs; 4 u32, 0; … the jobs, one straight after the other"

-- "KAPITSA1" as a word
unfoldable pub begins_at : List ℕ → ℕ → Bool
begins_at list at = cond (nat_lt at (length list)) (word_at list at == 3549209602817016139) false

-- the job at the count's end, if the list has bytes there
unfoldable pub next_of : Kind → List ℕ → Count → Count
next_of kind list c = cond (nat_lt c.end (length list)) (with_of c (job_seen kind list c.end)) (missing_of c)

unfoldable pub jobs_of : Kind → List ℕ → Count → ℕ → Count
jobs_of kind list c zero = c
jobs_of kind list c (suc k) = next_of kind list (jobs_of kind list c k)

-- the list that begins at the count's end
unfoldable pub list_of : Kind → List ℕ → Count → Count
list_of kind list c = cond (begins_at list c.end) (jobs_of kind list (from_of c (c.end + 16)) (half_at list (c.end + 8))) (missing_of c)

-- two lists of a kind, one after the other
unfoldable pub both_of : Kind → List ℕ → Count → Count
both_of kind list c = list_of kind list (list_of kind list c)

-- those of positions, those of velocities, and nothing after them
unfoldable pub all_of : List ℕ → Count
all_of list = closed_of (both_of kinds.Velocity list (both_of kinds.Position list none_yet)) (length list)
