-- The lines of the program itemlist: words with a space between two, and a line end.
-- Assumes nothing.
use Rattle.std.specs.Prelude.{ℕ, List, [], ◌∷◌, ◌++◌}
use Rattle.log_item.specs.declared.Command.{Command}
use Rattle.log_item.specs.declared.Command.TheVariants.{Clean, Compact}
use Rattle.log_item.specs.declared.KeyValue.{KeyValue}
use Rattle.log_item.specs.declared.Op.{Op}
use Rattle.log_item.specs.declared.Op.TheVariants.{Put, Del}
use Rattle.log_item.specs.declared.LogItemContent.{LogItemContent}
use Rattle.log_item.specs.declared.LogItemContent.TheVariants as contents
use Rattle.log_item.specs.declared.LogItem.{LogItem}
use Rattle.log_item.specs.declared.EntryIndex.{EntryIndex}
use Rattle.item_lines.specs.Decimal.{decimal}

-- ASCII codes
abbrev pub space : ℕ
space = 0x20

abbrev pub line_end : ℕ
line_end = 0x0A

abbrev pub clean : List ℕ
clean = 0x63 ∷ 0x6C ∷ 0x65 ∷ 0x61 ∷ 0x6E ∷ []

abbrev pub compact : List ℕ
compact = 0x63 ∷ 0x6F ∷ 0x6D ∷ 0x70 ∷ 0x61 ∷ 0x63 ∷ 0x74 ∷ []

abbrev pub put : List ℕ
put = 0x70 ∷ 0x75 ∷ 0x74 ∷ []

abbrev pub del : List ℕ
del = 0x64 ∷ 0x65 ∷ 0x6C ∷ []

abbrev pub entry : List ℕ
entry = 0x65 ∷ 0x6E ∷ 0x74 ∷ 0x72 ∷ 0x79 ∷ []

abbrev pub items : List ℕ
items = 0x69 ∷ 0x74 ∷ 0x65 ∷ 0x6D ∷ 0x73 ∷ []

abbrev pub entries : List ℕ
entries = 0x65 ∷ 0x6E ∷ 0x74 ∷ 0x72 ∷ 0x69 ∷ 0x65 ∷ 0x73 ∷ []

abbrev pub bytes : List ℕ
bytes = 0x62 ∷ 0x79 ∷ 0x74 ∷ 0x65 ∷ 0x73 ∷ []

abbrev pub refused : List ℕ
refused = 0x72 ∷ 0x65 ∷ 0x66 ∷ 0x75 ∷ 0x73 ∷ 0x65 ∷ 0x64 ∷ []

-- a word, and each further one after a space
unfoldable pub line : List ℕ → List (List ℕ) → List ℕ
line w [] = w ++ (line_end ∷ [])
line w (v ∷ vs) = w ++ (space ∷ line v vs)

-- 1 clean, or 5 compact 300
unfoldable pub command_line : ℕ → Command → List ℕ
command_line group Clean = line (decimal group) (clean ∷ [])
command_line group (Compact index) = line (decimal group) (compact ∷ decimal index ∷ [])

-- 2 put 1 1 (key and content length), or 2 del 1
unfoldable pub op_line : ℕ → ℕ → Op → List ℕ
op_line group key (Put value) = line (decimal group) (put ∷ decimal key ∷ decimal value.len ∷ [])
op_line group key Del = line (decimal group) (del ∷ decimal key ∷ [])

abbrev pub key_line : ℕ → KeyValue → List ℕ
key_line group k = op_line group k.key.len k.op

-- entries have a line each, and no other
unfoldable pub content_line : ℕ → LogItemContent → List ℕ
content_line group (contents.EntryIndexes e) = []
content_line group (contents.Command c) = command_line group c
content_line group (contents.Kv k) = key_line group k

abbrev pub item_line : LogItem → List ℕ
item_line item = content_line item.raft_group_id item.content

-- 3 entry 10 0 4
unfoldable pub entry_line : ℕ → EntryIndex → List ℕ
entry_line group row = line (decimal group) (entry ∷ decimal row.index ∷ decimal row.entry_offset ∷ decimal row.entry_len ∷ [])

-- items 2 entries 3 bytes 10
unfoldable pub sums_line : ℕ → ℕ → ℕ → List ℕ
sums_line i e b = line items (decimal i ∷ entries ∷ decimal e ∷ bytes ∷ decimal b ∷ [])

-- refused 15 0, number and item
unfoldable pub refused_line : ℕ → ℕ → List ℕ
refused_line number item = line refused (decimal number ∷ decimal item ∷ [])
