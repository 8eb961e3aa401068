-- What the calls of the master answer, in document 01's numbers.
use Rattle.std.specs.Prelude.{List, ℤ, take, Result, Ok, Err}
use Rattle.units.specs.Refusal.{number_of}
use Rattle.units.specs.declared.Stamp.{Stamp}
use Rattle.units.specs.declared.Batch.{Batch}
use Rattle.units.specs.declared.refusal.Refusal.{Refusal}
use Rattle.model.specs.Log.{Entry}
use Rattle.model.specs.Call.{Reply, refused, version, own, apart_by, committed, aborted, made, made_by}
use Rattle.master.specs.declared.Reading.{Reading}
use Rattle.master.specs.declared.NotCommitted.{NotCommitted}

abbrev pub read_reply : Result Reading Refusal → Reply
read_reply (Ok (Reading.Version v)) = version v
read_reply (Ok (Reading.Own v)) = own v
read_reply (Err f) = refused (number_of f)

abbrev pub distance_reply : Result ℤ Refusal → Reply
distance_reply (Ok d) = apart_by d
distance_reply (Err f) = refused (number_of f)

abbrev pub commit_reply : Result Stamp NotCommitted → Reply
commit_reply (Ok s) = committed s.0
commit_reply (Err (NotCommitted.Aborted r)) = aborted r
commit_reply (Err (NotCommitted.Refused f)) = refused (number_of f)

-- the versions themselves stand beside the answer
abbrev pub made_reply : Result Batch Refusal → List Entry → Reply
made_reply (Ok b) es = made (take 16 es)
made_reply (Err f) es = refused (number_of f)

abbrev pub newest_reply : Result Stamp Refusal → Reply
newest_reply (Ok s) = made_by s.0
newest_reply (Err f) = refused (number_of f)
