-- Decimal text. Document 01: "Numbers are decimal without leading zeros or plus; minus only before a value below zero".
use Rattle.std.specs.Prelude.{ℕ, zero, suc, ◌+◌, ◌/◌, ◌%◌, Bool, cond, ◌&&◌, List, [], ◌∷◌, ◌++◌, leb, ltb, ℤ, pos, negsuc}

-- the bytes `0` to `9`
unfoldable pub is_digit : ℕ → Bool
is_digit b = leb 48 b && leb b 57

-- The digits of n in at most k places, the most significant first.
-- The `let` waits: a closed number takes as many steps as it has digits, whatever k is.
unfoldable pub spelt : ℕ → ℕ → List ℕ
spelt zero n = []
spelt (suc k) n =
    let front : List ℕ = spelt k (n / 10) ++ ((48 + n % 10) ∷ []) in
    cond (ltb n 10) ((48 + n) ∷ []) front

-- the digits of n; it has at most n + 1 of them
unfoldable pub decimal : ℕ → List ℕ
decimal n = spelt (suc n) n

-- The text of a value: 45 is the minus. `negsuc n` is -1 - n.
abbrev pub plain : ℤ → List ℕ
plain (pos n) = decimal n
plain (negsuc n) = 45 ∷ decimal (suc n)

-- a field of a line: one tab (9), and a number in its plain form
abbrev pub field : ℤ → List ℕ
field z = 9 ∷ plain z

-- the texts of things, one behind the other
unfoldable pub joined : {A : Type 0} → (A → List ℕ) → List A → List ℕ
joined f [] = []
joined f (x ∷ xs) = f x ++ joined f xs
