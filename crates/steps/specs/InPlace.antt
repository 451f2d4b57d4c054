-- Every refusal in its place: document 01, "Why a job was turned back", and the last sentence of demand 3.
use Rattle.std.specs.Prelude.{ℕ, ◌↔◌, ◌≡◌}
use Rattle.loops.specs.Numbers.{In}
use Rattle.loops.specs.Run.{Goes, ended}
use Rattle.steps.specs.Method.{Method}
use Rattle.steps.specs.Numbers.{InBegin, InFactor, InOpening, Places, TurnsBack14, TurnsBack15, TurnsBack16, TurnsBack17, order_of}
use Rattle.steps.specs.Solve.{solve}

module _ {S C F : Type 0} (m : Method S C F) (p : Places) (limit : ℕ) where
  -- Demand 3: "none of these papers' refusals, each judged in its place, turns it back".
  pub record NoneTurnsBack : Type 0 where
    pub not_opening : (n : ℕ) → In n p.opening → ¬ InOpening m limit n
    pub not_begin : (n : ℕ) → In n p.begin → ¬ InBegin m limit n
    pub not_factor : (n : ℕ) → In n p.factor → ¬ InFactor m limit n
    pub not14 : ¬ TurnsBack14 m limit
    pub not15 : ¬ TurnsBack15 m limit
    pub not16 : ¬ TurnsBack16 m limit
    pub not17 : ¬ TurnsBack17 m limit

  -- A number is answered exactly where it turns the job back, no other number is given, and a solve is accepted exactly where none turns it back.
  pub record InPlace : Type 0 where
    pub at_opening : (n : ℕ) → In n p.opening → (solve m limit ≡ ended n) ↔ InOpening m limit n
    pub at_begin : (n : ℕ) → In n p.begin → (solve m limit ≡ ended n) ↔ InBegin m limit n
    pub at_factor : (n : ℕ) → In n p.factor → (solve m limit ≡ ended n) ↔ InFactor m limit n
    pub at14 : (solve m limit ≡ ended 14) ↔ TurnsBack14 m limit
    pub at15 : (solve m limit ≡ ended 15) ↔ TurnsBack15 m limit
    pub at16 : (solve m limit ≡ ended 16) ↔ TurnsBack16 m limit
    pub at17 : (solve m limit ≡ ended 17) ↔ TurnsBack17 m limit
    pub only : (n : ℕ) → solve m limit ≡ ended n → In n (order_of p)
    pub accepted : Goes (solve m limit) ↔ NoneTurnsBack
