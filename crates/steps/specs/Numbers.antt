-- The refusals by their numbers: document 01, "Why a job was turned back". Which part of a solve refuses with which numbers, and where each number turns a job back.
use Rattle.std.specs.Prelude.{ℕ, false, true, List, [], ◌++◌, ◌∷◌, ◌⊎◌, ◌≡◌}
use Rattle.loops.specs.Numbers.{In, once}
use Rattle.loops.specs.Run.{Goes, ended, going}
use Rattle.steps.specs.Meaning.{Advancing, Finishing, Renewing}
use Rattle.steps.specs.Method.{Method}
use Rattle.steps.specs.Steps.{step_at}

-- ---- the order of judging, as one list cut into places

-- the numbers of the places that a kind of solve chooses
pub record Places : Type 0 where
  pub opening : List ℕ  -- before step 0
  pub begin : List ℕ  -- in step 0, before the count 0 test
  pub factor : List ℕ  -- in the factor, after the count 0 test

-- "14 to 16 as the Rust meets them", and 17: the same for every kind
abbrev pub late : List ℕ
late = 14 ∷ (15 ∷ (16 ∷ (17 ∷ [])))

-- of what is made anew from a step, and of a step
abbrev pub renewing : List ℕ
renewing = 14 ∷ (16 ∷ [])

abbrev pub advancing : List ℕ
advancing = 15 ∷ (16 ∷ [])

abbrev pub order_of : Places → List ℕ
order_of p = p.opening ++ (p.begin ++ (p.factor ++ late))

module _ {S C F : Type 0} (m : Method S C F) where
  -- Each part refuses with the numbers of its place, and each number has one place.
  pub record Numbers (p : Places) : Type 0 where
    pub apart : once (order_of p) ≡ true
    pub opening : (limit n : ℕ) → m.opening limit ≡ ended n → In n p.opening
    pub begin : (n : ℕ) → m.begin ≡ ended n → In n p.begin
    pub first : (v : S) (n : ℕ) → m.begin ≡ going v → m.first v ≡ ended n → In n (p.factor ++ renewing)
    pub advance : (v : S) (c : C) (n : ℕ) → m.steps.advance v c ≡ ended n → In n advancing
    pub renew : (u v : S) (c : C) (n : ℕ) → m.begin ≡ going u → Goes (m.first u) → m.steps.renew v c ≡ ended n → In n renewing  -- a factor is there: neither step 0 nor what follows from it was refused it
    pub finish : (k : ℕ) (v : S) (n : ℕ) → m.finish k v ≡ ended n → n ≡ 17

  -- After the count 0 test: step 0 is there and misses, and its factor, z or s is refused.
  pub record Factoring (n : ℕ) : Type 0 where
    pub step : S
    pub made : step_at m 0 ≡ going step
    pub misses : m.steps.meets step ≡ false
    pub refused : m.first step ≡ ended n

  -- After the opening, which refuses nothing.
  pub record Passed (limit : ℕ) (T : Type 0) : Type 0 where
    pub opened : m.opening limit ≡ going tt
    pub then : T

  -- ---- where each number turns a job back

  -- before step 0
  abbrev pub InOpening : ℕ → ℕ → Type 0
  InOpening limit n = m.opening limit ≡ ended n

  -- in step 0, before the count 0 test
  abbrev pub InBegin : ℕ → ℕ → Type 0
  InBegin limit n = Passed limit (step_at m 0 ≡ ended n)

  -- in the factor, after the count 0 test
  abbrev pub InFactor : ℕ → ℕ → Type 0
  InFactor limit n = Passed limit (Factoring n)

  -- "14. Residual times preconditioned residual is at most MIN."
  abbrev pub TurnsBack14 : ℕ → Type 0
  TurnsBack14 limit = Passed limit (Renewing m limit 14)

  -- "15. Direction times product is at most MIN."
  abbrev pub TurnsBack15 : ℕ → Type 0
  TurnsBack15 limit = Passed limit (Advancing m limit 15)

  -- "16. A number in the recurrence is not finite."
  abbrev pub TurnsBack16 : ℕ → Type 0
  TurnsBack16 limit = Passed limit (Renewing m limit 16 ⊎ Advancing m limit 16)

  -- "17. A final impulse or multiplier is not finite."
  abbrev pub TurnsBack17 : ℕ → Type 0
  TurnsBack17 limit = Passed limit (Finishing m limit 17)
