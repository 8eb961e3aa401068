-- The calls of the master, with any numbers, and its replies, in the numbers of document 01.
use Rattle.std.specs.Prelude.{ℕ, List, ℤ}
use Rattle.units.specs.declared.rule.Rule.{Rule}
use Rattle.units.specs.declared.Version.{Version}
use Rattle.model.specs.Log.{Entry}

pub data Call : Type 0 where
  Start : Call
  Read : (name key : ℕ) → Call
  Note : (name key ordinal : ℕ) → Call
  Write : (name key : ℕ) (value : ℤ) → Call
  Tune : (name k1 k2 k3 : ℕ) → Call
  Distance : (name place : ℕ) → Call
  Abort : (name : ℕ) → Call
  Commit : (name : ℕ) → Call
  Message : (stamp : ℕ) → Call
  Newest : (key : ℕ) → Call

pub data Reply : Type 0 where
  refused : (number : ℕ) → Reply
  started : (name : ℕ) → Reply
  version : Version → Reply
  own : (value : ℤ) → Reply
  done : Reply
  apart_by : (distance : ℤ) → Reply
  committed : (stamp : ℕ) → Reply
  aborted : Rule → Reply
  made : List Entry → Reply
  made_by : (stamp : ℕ) → Reply
