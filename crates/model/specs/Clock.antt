-- The master's one clock: "Each start and each granted commit adds one and takes the result. A refusal or abort takes none."
use Rattle.std.specs.Prelude.{ℕ, suc, ◌≡◌}
use Rattle.model.specs.State.{State}
use Rattle.model.specs.Call.{Reply, refused, started, version, own, done, apart_by, committed, aborted, made, made_by}
use Rattle.model.specs.Step.{Step}

-- the reply takes the stamp m: a start's name, or a commit's stamp
abbrev pub Takes : Reply → ℕ → Type 0
Takes (started n) m = n ≡ m
Takes (committed n) m = n ≡ m
Takes (refused n) m = ⊥
Takes (version v) m = ⊥
Takes (own v) m = ⊥
Takes done m = ⊥
Takes (apart_by d) m = ⊥
Takes (aborted r) m = ⊥
Takes (made es) m = ⊥
Takes (made_by n) m = ⊥

-- a step takes the next stamp and the clock shows it, or takes none and the clock stays
pub data Clocked (s : State) (d : Step) : Type 0 where
  takes : Takes d.reply (suc s.clock) → d.state.clock ≡ suc s.clock → Clocked s d
  stays : ((m : ℕ) → ¬ Takes d.reply m) → d.state.clock ≡ s.clock → Clocked s d
