-- What a list of checks decides: the first that holds, and the call's own step where none does.
use Prim.Native.Nat.{ℕ}
use mathlib.Core.Path.{◌≡◌, refl, sym, ◌∙◌, ap}
use mathlib.Core.Logic.{◌↔◌, ◌⊎◌, inl, inr}
use mathlib.Core.Bool.{Bool, true, false, cond, true≢false}
use mathlib.Core.List.{List, [], ◌∷◌}
use Rattle.lists.specs.Lists.{Every, none, also}
use Rattle.model.specs.State.{State}
use Rattle.model.specs.Call.{refused}
use Rattle.model.specs.Step.{Step, Check, order, refuse, answers}
use Rattle.model.specs.Checks.{Line, end, row, the_aborts, RefusedBy}

-- what holds of the check's step, and of the rest where the check fails, holds of the whole
pub order_by : (P : Step → Type 0) (c : Check) (cs : List Check) (d : Step) → (c.holds ≡ true → P c.step) → (c.holds ≡ false → P (order cs d)) → P (order (c ∷ cs) d)
unfolding order
order_by P c cs d here below = go c.holds refl
  where
    go : (t : Bool) → c.holds ≡ t → P (cond t c.step (order cs d))
    go true e = here e
    go false e = below e

pub order-end : (P : Step → Type 0) (d : Step) → P d → P (order [] d)
unfolding order
order-end P d h = h

abbrev pub Fails : Check → Type 0
Fails c = c.holds ≡ false

-- where every check fails the call's own step is taken
pub order-none : {cs : List Check} (d : Step) → Every Fails cs → order cs d ≡ d
unfolding order
order-none d none = refl
order-none d (also e es) = rw e (order-none d es)

-- the checks of a call against a line of the document: a check holds exactly if its row's proposition does, where those before it fail
pub data Fits (s : State) : List Check → Line → Type 1 where
  over : Fits s [] end
  refuses : {b : Bool} {n : ℕ} {P : Type 0} {cs : List Check} {l : Line} → (b ≡ true) ↔ P → (b ≡ false → Fits s cs l) → Fits s (refuse s n b ∷ cs) (row n P l)
  breaks : {c : Check} {P : Type 0} {cs : List Check} {l : Line} → ((n : ℕ) → ¬ (c.step.reply ≡ refused n)) → (c.holds ≡ true) ↔ P → (c.holds ≡ false → Fits s cs l)
      → Fits s (c ∷ cs) (the_aborts P l)

module _ (s : State) (d : Step) (n : ℕ) where
  -- a refusal is that of the first row whose proposition holds
  pub refused-row : {cs : List Check} {l : Line} → Fits s cs l → (Every Fails cs → ¬ (d.reply ≡ refused n)) → (order cs d).reply ≡ refused n → RefusedBy l n
  unfolding order RefusedBy
  refused-row over final e = final none e
  refused-row (refuses {b} {n = m} {P} {cs} {l} t f) final e = go b refl (λ q a b. refused-row (f q) a b) e
    where
      go : (x : Bool) → b ≡ x → (b ≡ false → (Every Fails cs → ¬ (d.reply ≡ refused n)) → (order cs d).reply ≡ refused n → RefusedBy l n)
          → (cond x (answers s (refused m)) (order cs d)).reply ≡ refused n → (P × (n ≡ m)) ⊎ ((¬ P) × RefusedBy l n)
      go true q r e = inl (t.0 q, cc)
      go false q r e = inr (λ h. true≢false (sym (t.1 h) ∙ q), r q (λ es. final (also q es)) e)
  refused-row (breaks {c} {P} {cs} {l} u t f) final e = go c.holds refl (λ q a b. refused-row (f q) a b) e
    where
      go : (x : Bool) → c.holds ≡ x → (c.holds ≡ false → (Every Fails cs → ¬ (d.reply ≡ refused n)) → (order cs d).reply ≡ refused n → RefusedBy l n)
          → (cond x c.step (order cs d)).reply ≡ refused n → (¬ P) × RefusedBy l n
      go true q r e = absurd (u n e)
      go false q r e = (λ h. true≢false (sym (t.1 h) ∙ q), r q (λ es. final (also q es)) e)

  -- and the first row whose proposition holds refuses
  pub row-refused : {cs : List Check} {l : Line} → Fits s cs l → RefusedBy l n → (order cs d).reply ≡ refused n
  unfolding order RefusedBy
  row-refused over e = absurd e
  row-refused (refuses {b} {n = m} {P} {cs} {l} t f) e = go b refl (λ q a. row-refused (f q) a) e
    where
      go : (x : Bool) → b ≡ x → (b ≡ false → RefusedBy l n → (order cs d).reply ≡ refused n) → (P × (n ≡ m)) ⊎ ((¬ P) × RefusedBy l n)
          → (cond x (answers s (refused m)) (order cs d)).reply ≡ refused n
      go true q r (inl h) = ap refused (sym h.1)
      go true q r (inr h) = absurd (h.0 (t.0 q))
      go false q r (inl h) = absurd (true≢false (sym (t.1 h.0) ∙ q))
      go false q r (inr h) = r q h.1
  row-refused (breaks {c} {P} {cs} {l} u t f) e = go c.holds refl (λ q a. row-refused (f q) a) e
    where
      go : (x : Bool) → c.holds ≡ x → (c.holds ≡ false → RefusedBy l n → (order cs d).reply ≡ refused n) → (¬ P) × RefusedBy l n → (cond x c.step (order cs d)).reply ≡ refused n
      go true q r h = absurd (h.0 (t.0 q))
      go false q r h = r q h.1
