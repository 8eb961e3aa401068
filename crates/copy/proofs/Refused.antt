-- What a copy refuses, exactly when, and that it stays as it was. Every copy and every line is taken.
use Prim.Native.Nat.{ℕ, ◌≤◌, ◌<◌}
use native.Mathlib.Decide.{dec_lt}
use native.Mathlib.Omega.{arith}
use mathlib.Core.Path.{◌≡◌, refl, sym, ◌∙◌}
use mathlib.Core.Logic.{◌↔◌}
use mathlib.Core.List.{List}
use borrow.Author.Tests.{lt-ltb, le-ltb}
use Rattle.units.specs.declared.Item.{Item}
use Rattle.message.specs.Line.{message_text, IsMessage}
use Rattle.message.specs.Read.{Reading, whole, bad, read_line}
use Rattle.message.proofs.Exactly.{bad_exactly}
use Rattle.copy.specs.Copy.{refused, version, held, read_of, take_reading, take_line}
use Rattle.copy.specs.declared.Copy.{Copy}

module _ (c : Copy) where
  -- "a read there answers all three"
  pub read-answers : (k : ℕ) → k ≤ 63 → read_of c k ≡ version (held c k)
  unfolding read_of
  read-answers k h = rw (le-ltb 63 k h)

  read-refused : (k : ℕ) → 63 < k → read_of c k ≡ refused 2
  unfolding read_of
  read-refused k h = rw (lt-ltb 63 k h)

  -- "read at a copy: 2", "key above 63"
  pub two_exactly : (k : ℕ) → (read_of c k ≡ refused 2) ↔ (63 < k)
  two_exactly k = (λ e. go (dec_lt 63 k) e, read-refused k)
    where
      go : Dec (63 < k) → read_of c k ≡ refused 2 → 63 < k
      go (yes h) e = h
      go (no h) e = let f : version (held c k) ≡ refused 2 = sym (read-answers k (omega arith)) ∙ e in let z : ◌≡◌ {A = ℕ} 0 1 = cc in absurd (omega arith)

  module _ (line : List ℕ) where
    -- "10: message line not of the form above"
    pub ten_exactly : ((take_line c line).reply ≡ refused 10) ↔ ((stamp : ℕ) (items : List Item) → IsMessage stamp items → line ≡ message_text stamp items → ⊥)
    unfolding take_line take_reading
    ten_exactly = (λ e. (bad_exactly line).0 (to (read_line line) refl e), λ n. rw ((bad_exactly line).1 n))
      where
        to : (r : Reading) → read_line line ≡ r → (take_reading c r).reply ≡ refused 10 → read_line line ≡ bad
        to (whole stamp items) q e = let z : ◌≡◌ {A = ℕ} 0 1 = cc in absurd (omega arith)
        to bad q e = q

    -- "state and buffers stay"
    pub refused-copy : (n : ℕ) → (take_line c line).reply ≡ refused n → (take_line c line).copy ≡ c
    unfolding take_line take_reading
    refused-copy n e = go (read_line line) e
      where
        go : (r : Reading) → (take_reading c r).reply ≡ refused n → (take_reading c r).copy ≡ c
        go (whole stamp items) e = let z : ◌≡◌ {A = ℕ} 0 1 = cc in absurd (omega arith)
        go bad e = refl
