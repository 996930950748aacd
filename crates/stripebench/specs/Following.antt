-- WHAT A RECORD LEAVES FOR THE NEXT: a whole record of a known kind is taken from the input and acted on; where there is none, the run ends and
-- the room stays. Assumes nothing.
-- known, rest == the bytes that the input has left before and after, where they are known
use Rattle.std.specs.Prelude.{◌≡◌, List, ◌∷◌, ◌++◌, ℕ, ◌≤◌, length, take, Option, Some, Result, IfSome}
use Rattle.std.specs.declared.ops.ControlFlow.{ControlFlow}
use Rattle.std.specs.declared.ops.ControlFlow.TheVariants.{Continue, Break}
use Rattle.std.specs.Io.KnownBytes.{Consumes}
use Rattle.stripebench.specs.declared.acting.Room.{Room}
use Rattle.stripebench.specs.declared.records.Record.{Record}
use Rattle.stripebench.specs.declared.replies.Refused.{Refused}
use Rattle.stripebench.specs.declared.replies.Reply.{Reply}
use Rattle.stripebench.specs.Acting.{Acts}
use Rattle.stripebench.specs.Records.{record_of}
use Rattle.stripebench.specs.Replies.{numbered, refused_number}

-- these bytes do not begin with a whole record of a known kind
abbrev pub NoRecord : List ℕ → Type 0
NoRecord xs =
    (kind : ℕ) (x : Record) → record_of kind ≡ Some x → (body after : List ℕ) → length body ≡ x.length → xs ≡ kind ∷ (body ++ after) → ⊥

-- the record's bytes were taken, and what it says was done in the room
pub record ActedOn (known rest : Option (List ℕ)) (before after : Room) : Type 0 where
  pub kind : ℕ
  pub says : Record
  pub kinds : record_of kind ≡ Some says
  pub body : List ℕ
  pub whole : says.length ≤ length body
  pub taken : Consumes known rest (kind ∷ take says.length body)
  pub answer : Result Reply Refused
  pub acts : Acts says.action body before.shape before.bytes after.shape after.bytes (numbered refused_number answer)

-- what follows is the next record where one was acted on, and the end where there was none
pub record Passes (known rest : Option (List ℕ)) (before : Room) (x : ControlFlow Unit Unit) (after : Room) : Type 0 where
  pub again : x ≡ Continue tt → ActedOn known rest before after
  pub end : x ≡ Break tt → (after ≡ before) × IfSome known NoRecord

-- where reading or printing failed: the room as it was, or as the record that was acted on left it
pub data Left (known rest : Option (List ℕ)) (before after : Room) : Type 0 where
  kept : after ≡ before → Left known rest before after
  done : ActedOn known rest before after → Left known rest before after
