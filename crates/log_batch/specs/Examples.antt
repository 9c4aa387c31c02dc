-- Document 01's worked examples that are proved about the definitions, "Both sides of the line": a single table.
-- Assumes nothing.
use Rattle.std.specs.Prelude.{◌≡◌, ℕ, ◌-◌, ◌^◌, List, [], ◌∷◌, length}
use Rattle.codec.specs.Shortest.{shortest}
use Rattle.log_item.specs.Got.{Got, got, refused}
use Rattle.log_item.specs.Reading.{Read, one_item}
use Rattle.log_item.specs.Pieces.{number}
use Rattle.log_item.specs.declared.Form.TheVariants.{Any}
use Rattle.log_item.specs.declared.Command.TheVariants.{Compact}
use Rattle.log_item.specs.declared.Op.TheVariants.{Put}
use Rattle.log_item.specs.declared.LogItemContent.TheVariants as contents
use Rattle.refusal.specs.declared.Reason.TheVariants.{NumberBroken, OpUnknown, TailFalls, TailTooLarge}

pub data Example : Type 0 where
  -- the number is written as the bytes, and these read as it
  is : ℕ → List ℕ → Example
  -- the bytes read as a number so
  reads : List ℕ → Got ℕ → Example
  -- the bytes read as an item so, with nothing before it
  item : List ℕ → Got Read → Example

abbrev pub Right : Example → Type 0
Right (is n bs) = (shortest n ≡ bs) × (number Any bs 0 ≡ got n (length bs))
Right (reads bs r) = number Any bs 0 ≡ r
Right (item bs r) = one_item Any bs 0 0 0 ≡ r

abbrev pub AllRight : List Example → Type 0
AllRight [] = Unit {0}
AllRight (e ∷ es) = Right e × AllRight es

abbrev pub table : List Example
table =
    is 127 (0x7F ∷ [])
    ∷ is 128 (0x80 ∷ 0x01 ∷ [])
    ∷ is 300 (0xAC ∷ 0x02 ∷ [])
    ∷ is (2 ^ 64 - 1) (0xFF ∷ 0xFF ∷ 0xFF ∷ 0xFF ∷ 0xFF ∷ 0xFF ∷ 0xFF ∷ 0xFF ∷ 0xFF ∷ 0x01 ∷ [])
    ∷ reads (0x80 ∷ 0x00 ∷ []) (got 0 2)
    ∷ reads (0xFF ∷ 0xFF ∷ 0xFF ∷ 0xFF ∷ 0xFF ∷ 0xFF ∷ 0xFF ∷ 0xFF ∷ 0xFF ∷ 0x02 ∷ []) (refused NumberBroken)
    ∷ reads (0x80 ∷ []) (refused NumberBroken)
    ∷ item (0x05 ∷ 0x02 ∷ 0x02 ∷ 0xAC ∷ 0x02 ∷ [])
    (got (record { item = record { raft_group_id = 5; content = contents.Command (Compact 300) }; rows = []; total = 0 }) 5)
    ∷ item (0x02 ∷ 0x03 ∷ 0x01 ∷ 0x01 ∷ 0x6B ∷ 0x01 ∷ 0x76 ∷ [])
    (got (record {
      item = record { raft_group_id = 2; content = contents.Kv (record { key = record { at = 4; len = 1 }; op = Put (record { at = 6; len = 1 }) }) };
      rows = [];
      total = 0;
    }) 7)
    ∷ item (0x02 ∷ 0x03 ∷ 0x00 ∷ 0x01 ∷ 0x6B ∷ 0x01 ∷ 0x76 ∷ []) (refused OpUnknown)
    ∷ item (0x03 ∷ 0x01 ∷ 0x03 ∷ 0x0A ∷ 0x04 ∷ 0x04 ∷ 0x0A ∷ [])
    (got (record {
      item = record { raft_group_id = 3; content = contents.EntryIndexes (record { count = 3; first_index = 10 }) };
      rows =
          record { index = 10; entry_offset = 0; entry_len = 4 }
          ∷ record { index = 11; entry_offset = 4; entry_len = 0 }
          ∷ record { index = 12; entry_offset = 4; entry_len = 6 }
          ∷ [];
      total = 10;
    }) 7)
    ∷ item (0x03 ∷ 0x01 ∷ 0x02 ∷ 0x0A ∷ 0x04 ∷ 0x03 ∷ []) (refused TailFalls)
    ∷ item (0x03 ∷ 0x01 ∷ 0x01 ∷ 0x0A ∷ 0xFF ∷ 0xFF ∷ 0xFF ∷ 0xFF ∷ 0x0F ∷ [])
    (got (record {
      item = record { raft_group_id = 3; content = contents.EntryIndexes (record { count = 1; first_index = 10 }) };
      rows = record { index = 10; entry_offset = 0; entry_len = 4294967295 } ∷ [];
      total = 4294967295;
    }) 9)
    ∷ item (0x03 ∷ 0x01 ∷ 0x01 ∷ 0x0A ∷ 0x80 ∷ 0x80 ∷ 0x80 ∷ 0x80 ∷ 0x10 ∷ []) (refused TailTooLarge)
    ∷ []
