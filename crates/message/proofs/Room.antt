-- Row 17 of a message: "the whole output or message is longer than the lent room", exactly when.
use Prim.Native.Nat.{ℕ, ◌≤◌, ◌<◌}
use native.Mathlib.Decide.{dec_lt}
use native.Mathlib.Omega.{arith}
use mathlib.Core.Path.{◌≡◌, sym, ◌∙◌}
use mathlib.Core.Logic.{◌↔◌}
use mathlib.Core.List.{List}
use borrow.Author.Tests.{le-leb, lt-leb}
use lib.ListN.{length}
use Rattle.message.specs.Write.{bytes, refused, text_reply}

module _ (room text : List ℕ) where
  pub text-fits : length text ≤ length room → text_reply room text ≡ bytes (length text)
  unfolding text_reply
  text-fits h = rw (le-leb (length text) (length room) h)

  pub text-full : length room < length text → text_reply room text ≡ refused 17
  unfolding text_reply
  text-full h = rw (lt-leb (length text) (length room) h)

  pub seventeen_text : (text_reply room text ≡ refused 17) ↔ (length room < length text)
  seventeen_text = (go (dec_lt (length room) (length text)), text-full)
    where
      go : Dec (length room < length text) → text_reply room text ≡ refused 17 → length room < length text
      go (yes h) e = h
      go (no h) e = let f : bytes (length text) ≡ refused 17 = sym (text-fits (omega arith)) ∙ e in let z : ◌≡◌ {A = ℕ} 0 1 = cc in absurd (omega arith)
