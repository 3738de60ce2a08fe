-- Where entries, tree nodes and resolve-undo records begin in a file, and so where the names are that are shown. Of a file that is not
-- accepted these places say nothing. w is the width of an object name and of the checksum, b the body.
use Rattle.std.specs.Prelude.{List, [], cond, ℕ, zero, suc, ◌+◌, ◌-◌, length, take, drop}
use Rattle.format.specs.Bytes.{be16, be32, eq_list}
use Rattle.format.specs.Records.{start, Undo}
use Rattle.format.specs.Layout.{fixed_length, TREE, REUC}
use Rattle.format.specs.Reading.{Read, bad, good}
use Rattle.format.specs.Reader.{Head, is_set, read_entries, read_node, read_undo}

-- the body: all bytes but the checksum
abbrev pub body_in : ℕ → List ℕ → List ℕ
body_in w f = take (length f - w) f

-- how many bytes a reading took
abbrev pub taken : {A : Type 0} → Read A → ℕ
taken (bad n p) = 0
taken (good a m) = m

-- ---- entries

-- an entry of version v begins where the k entries before it end
unfoldable pub entry_place : ℕ → ℕ → ℕ → List ℕ → ℕ
entry_place w v k b = 12 + taken (read_entries w v k start 12 (drop 12 b))

-- the name of the entry at a place: after the fixed part, and after the extended word where the flags have its bit
unfoldable pub name_place : ℕ → ℕ → List ℕ → ℕ
name_place w at b = at + fixed_length w (is_set 16384 (be16 (drop at b) (40 + w)))

-- the name of entry k of a file of version 2 or 3
unfoldable pub entry_name_place : ℕ → ℕ → List ℕ → ℕ
entry_name_place w k f = name_place w (entry_place w (be32 f 4) k (body_in w f)) (body_in w f)

-- ---- extensions

-- the data of the first extension with the signature x, of those from the place p on, whose bytes are s: they are after signature and size.
-- fuel is at least the number of bytes
unfoldable pub data_from : List ℕ → ℕ → ℕ → List ℕ → ℕ
data_from x zero p s = p
data_from x (suc fuel) p s = cond (eq_list (take 4 s) x) (p + 8) (data_from x fuel (p + (8 + be32 s 4)) (drop (8 + be32 s 4) s))

-- the same of all extensions of a body whose entries end at a byte
unfoldable pub data_place : List ℕ → ℕ → List ℕ → ℕ
data_place x end b = data_from x (length (drop end b)) end (drop end b)

-- the data at a place; their size is before them
unfoldable pub data_in : ℕ → List ℕ → List ℕ
data_in at b = take (be32 b (at - 4)) (drop at b)

-- the data of the extension of a file with the signature x
unfoldable pub data_of : ℕ → List ℕ → List ℕ → ℕ
data_of w x f = data_place x (entry_place w (be32 f 4) (be32 f 8) (body_in w f)) (body_in w f)

-- ---- nodes of the cache tree, as they are in its data

-- by the node that begins the list: its number of subtrees and its bytes
abbrev pub on_node : {A : Type 0} → Read Head → A → (ℕ → ℕ → A) → A
on_node (bad n p) none some = none
on_node (good h m) none some = some h.subtrees m

-- where the kth node begins; the end where there are fewer
unfoldable pub node_start : ℕ → ℕ → List ℕ → ℕ
node_start w zero s = 0
node_start w (suc k) s = on_node (read_node w 0 s) (length s) (λ subtrees m. m + node_start w k (drop m s))

-- node k of a file; it begins with its name
unfoldable pub node_place : ℕ → ℕ → List ℕ → ℕ
node_place w k f = data_of w TREE f + node_start w k (data_in (data_of w TREE f) (body_in w f))

-- ---- resolve-undo records, as they are in their data

-- a place after one record more
unfoldable pub after_undo : Read Undo → (Undo → ℕ → ℕ) → ℕ
after_undo (bad n p) k = 0
after_undo (good u m) k = m + k u m

-- the place in s of record number k, counted from 0, where one of the path previous is before s; 0 where a record before it is refused
unfoldable pub undo_start : ℕ → ℕ → ℕ → List ℕ → List ℕ → ℕ
undo_start w p zero previous s = 0
undo_start w p (suc k) previous s = after_undo (read_undo w p previous s) (λ u m. undo_start w p k u.path (drop m s))

-- record k of a file; it begins with its path
unfoldable pub undo_place : ℕ → ℕ → List ℕ → ℕ
undo_place w k f = data_of w REUC f + undo_start w 0 k [] (data_in (data_of w REUC f) (body_in w f))
