-- The reply of writing the output, in document 01's numbers.
use Rattle.std.specs.Prelude.{ℕ, List, Result, Ok, Err}
use Rattle.units.specs.Refusal.{number_of}
use Rattle.units.specs.declared.refusal.Refusal.{Refusal}
use Rattle.decimal.specs.Write.{handed_over}

-- how many bytes were written, or a refusal by its number
pub data WriteReply : Type 0 where
  wrote_bytes : ℕ → WriteReply
  refused_with : (number : ℕ) → WriteReply

abbrev pub written_reply : Result ℕ Refusal → WriteReply
written_reply (Ok n) = wrote_bytes n
written_reply (Err f) = refused_with (number_of f)

-- what is answered where the text t is to go to the room b; 17: "the whole output or message is longer than the lent room"
unfoldable pub written_as : List ℕ → List ℕ → WriteReply
written_as b t = handed_over wrote_bytes (refused_with 17) b t
