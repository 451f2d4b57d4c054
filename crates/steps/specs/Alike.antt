-- Two methods whose parts agree on the steps that the first one comes through, but for what is delivered: there the second delivers what f makes of it.
use Rattle.std.specs.Prelude.{ℕ, ◌≡◌}
use Rattle.loops.specs.Run.{Run, going, next}
use Rattle.steps.specs.Method.{Method}

-- an answer with its delivery changed by f
abbrev pub delivering : {A F G : Type 0} → (F → G) → Run (A × F) ℕ → Run (A × G) ℕ
delivering f r = next r (λ a. going (a.0, f a.1))

-- P holds of every step of m
pub record Alike {S C F G : Type 0} (m : Method S C F) (n : Method S C G) (P : S → Type 0) (f : F → G) : Type 0 where
  pub begun : (v : S) → m.begin ≡ going v → P v
  pub kept : (v w : S) (c : C) → P v → m.steps.advance v c ≡ going w → P w
  pub first : (v : S) → P v → n.first v ≡ m.first v
  pub advance : (v : S) (c : C) → P v → n.steps.advance v c ≡ m.steps.advance v c
  pub meets : (v : S) → P v → n.steps.meets v ≡ m.steps.meets v
  pub renew : (v : S) (c : C) → P v → n.steps.renew v c ≡ m.steps.renew v c
  pub finish : (k : ℕ) (v : S) → P v → n.finish k v ≡ next (m.finish k v) (λ d. going (f d))
