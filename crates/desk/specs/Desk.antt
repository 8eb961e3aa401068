-- What the calls of the desk answer, in document 01's numbers.
use Rattle.std.specs.Prelude.{Result, Ok, Err}
use Rattle.units.specs.Refusal.{number_of}
use Rattle.units.specs.declared.Stamp.{Stamp}
use Rattle.units.specs.declared.refusal.Refusal.{Refusal}
use Rattle.model.specs.Call.{Reply, refused, started, done}

abbrev pub start_reply : Result Stamp Refusal → Reply
start_reply (Ok s) = started s.0
start_reply (Err f) = refused (number_of f)

abbrev pub done_reply : Result Unit Refusal → Reply
done_reply (Ok u) = done
done_reply (Err f) = refused (number_of f)
