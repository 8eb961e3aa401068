-- Writing text. Document 01: "After a text is written, the rest of its buffer is untouched"; on a refusal "buffers stay".
use Rattle.std.specs.Prelude.{ℕ, ◌+◌, ◌≤◌, ◌≡◌, Bool, cond, List, ◌++◌, leb, length, take, drop, Option, Some, None}

-- is there room for n bytes of b from `at` on
abbrev pub room : List ℕ → ℕ → ℕ → Bool
room b at n = leb (at + n) (length b)

-- where n bytes of b from `at` on end, if there is room for them
abbrev pub ends : List ℕ → ℕ → ℕ → Option ℕ
ends b at n = cond (room b at n) (Some (at + n)) None

-- b after the text t was put at `at`: whole, or not at all
unfoldable pub put : List ℕ → ℕ → List ℕ → List ℕ
put b at t = cond (room b at (length t)) (take at b ++ t ++ drop (at + length t) b) b

-- the answer: the place behind t
unfoldable pub wrote : List ℕ → ℕ → List ℕ → Option ℕ
wrote b at t = ends b at (length t)

-- what is answered where the whole text t is handed over at the front of b: its length, or that there is no room
abbrev pub handed_over : {A : Type 0} → (ℕ → A) → A → List ℕ → List ℕ → A
handed_over bytes noRoom b t = cond (leb (length t) (length b)) (bytes (length t)) noRoom

-- the text t was put into b at `at`, which made it c, and r is the place behind it
pub record Puts (b c : List ℕ) (at : ℕ) (t : List ℕ) (r : ℕ) : Type 0 where
  pub place : r ≡ at + length t
  pub fits : r ≤ length b
  pub text : c ≡ put b at t
