-- A session: calls from an opening, one after the other; the state it reaches, and its replies.
use Rattle.std.specs.Prelude.{ℕ, List, [], ◌∷◌, ◌≡◌}
use Rattle.model.specs.State.{State}
use Rattle.model.specs.Call.{Call, Tune, Reply}
use Rattle.model.specs.Step.{Step, step}

unfoldable pub reached : State → List Call → State
reached s [] = s
reached s (c ∷ cs) = reached (step s c).state cs

unfoldable pub replies : State → List Call → List Reply
replies s [] = []
replies s (c ∷ cs) = let d : Step = step s c in d.reply ∷ replies d.state cs

-- a call that does not tune the transaction of the name n: no tuning of it, or one with k1 = 0, which is refused
abbrev pub NoTuning : ℕ → Call → Type 0
NoTuning n c = (k1 k2 k3 : ℕ) → c ≡ Tune n k1 k2 k3 → k1 ≡ 0
