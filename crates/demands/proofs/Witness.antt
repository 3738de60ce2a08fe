-- The statements of the demands are not empty: a file of 198 bytes that is accepted, so spelled, and whose cut to 96 bytes is accepted too, and
-- to 95 bytes refused. The cut's checksum reads, in the whole file, as the head of an extension that is passed over. The file is rewritten. A
-- file of version 4, whose entry is shown in the workspace. And a file with a cache tree and resolve undo, whose nodes and records are shown,
-- with a put and a remove.
use mathlib.Core.Path.{◌≡◌, refl, ap, ◌∙◌}
use mathlib.Core.List.{List, [], ◌∷◌, ◌++◌}
use mathlib.Core.Option.{some}
use Prim.Native.Nat.{ℕ}
use lib.ListN.{take, replicate}
use Rattle.format.specs.Bytes.{Bytes, fit32}
use Rattle.format.specs.Layout.{entry_length, Spells}
use Rattle.format.specs.Checksum.{matches}
use Rattle.format.specs.Reading.{good}
use Rattle.format.specs.Reader.{Contents, read_file}
use Rattle.format.specs.Places.{entry_place, name_place, entry_name_place, data_from, data_place, data_in, data_of, node_start, node_place, after_undo, undo_start, undo_place}
use Rattle.format.proofs.Cases.{a-b, a/b, a/c}
use Rattle.format.specs.Records.{Records, Entry, Key, valid, Node, nil, tree}
use Rattle.format.specs.Requests.{put_record, remove_record}
use Rattle.kinds.specs.Kinds.{width_of, hash_of, read_kind}
use Rattle.kinds.proofs.Laws.{sha1-known, known-file}
use Rattle.answers.specs.declared.Checksum.TheVariants.{Matches}
use Rattle.answers.specs.declared.Summary.{Summary}
use Rattle.std.specs.Prelude.{Some, None}
use Rattle.std.specs.Prelude.{Ok}
use Rattle.format.specs.Refusals.{denied}
use Rattle.answers.specs.Answers.{check_answer, node_answer, undo_answer, in_file, in_workspace}
use Rattle.answers.specs.Writing.{put_answer, remove_answer}
use Rattle.demands.proofs.Statements.{check, entry, node, undo, rewrite, put, remove}
use Rattle.demands.proofs.Demands.{demand2, demand3}
use Rattle.demands.proofs.Samples.{work, closed, room, below, all-below, plain, index_bytes, plain_entry, plan}

-- ---- an extension that is passed over

unfoldable pub file : List ℕ
file = 68 ∷ 73 ∷ 82 ∷ 67 ∷ 0 ∷ 0 ∷ 0 ∷ 2 ∷ 0 ∷ 0 ∷ 0 ∷ 1 ∷ 0 ∷ 0 ∷ 0 ∷ 0 ∷ 0 ∷ 0 ∷ 0 ∷ 0 ∷ 0 ∷ 0 ∷ 0 ∷ 0 ∷ 0 ∷ 0 ∷ 0 ∷ 0 ∷ 0 ∷ 0 ∷ 0 ∷ 0 ∷ 0 ∷ 0 ∷ 0 ∷ 0 ∷ 0 ∷ 0 ∷ 129 ∷ 164 ∷ 0 ∷ 0 ∷ 0 ∷ 0 ∷ 0 ∷ 0 ∷ 0 ∷ 0 ∷ 0 ∷ 0 ∷ 0 ∷ 0 ∷ 17 ∷ 17 ∷ 17 ∷ 17 ∷ 17 ∷ 17 ∷ 17 ∷ 17 ∷ 17 ∷ 17 ∷ 17 ∷ 17 ∷ 17 ∷ 17 ∷ 17 ∷ 0 ∷ 8 ∷ 134 ∷ 46 ∷ 43 ∷ 0 ∷ 1 ∷ 97 ∷ 0 ∷ 80 ∷ 252 ∷ 85 ∷ 130 ∷ 0 ∷ 0 ∷ 0 ∷ 94 ∷ 218 ∷ 247 ∷ 100 ∷ 105 ∷ 176 ∷ 207 ∷ 254 ∷ 107 ∷ 166 ∷ 76 ∷ 170 ∷ 69 ∷ 0 ∷ 0 ∷ 0 ∷ 0 ∷ 0 ∷ 0 ∷ 0 ∷ 0 ∷ 0 ∷ 0 ∷ 0 ∷ 0 ∷ 0 ∷ 0 ∷ 0 ∷ 0 ∷ 0 ∷ 0 ∷ 0 ∷ 0 ∷ 0 ∷ 0 ∷ 0 ∷ 0 ∷ 0 ∷ 0 ∷ 0 ∷ 0 ∷ 0 ∷ 0 ∷ 0 ∷ 0 ∷ 0 ∷ 0 ∷ 0 ∷ 0 ∷ 0 ∷ 0 ∷ 0 ∷ 0 ∷ 0 ∷ 0 ∷ 0 ∷ 0 ∷ 0 ∷ 0 ∷ 0 ∷ 0 ∷ 0 ∷ 0 ∷ 0 ∷ 0 ∷ 0 ∷ 0 ∷ 0 ∷ 0 ∷ 0 ∷ 0 ∷ 0 ∷ 0 ∷ 0 ∷ 0 ∷ 0 ∷ 0 ∷ 0 ∷ 0 ∷ 0 ∷ 0 ∷ 0 ∷ 0 ∷ 0 ∷ 0 ∷ 0 ∷ 0 ∷ 0 ∷ 0 ∷ 0 ∷ 0 ∷ 0 ∷ 0 ∷ 0 ∷ 0 ∷ 118 ∷ 35 ∷ 156 ∷ 113 ∷ 71 ∷ 46 ∷ 113 ∷ 93 ∷ 96 ∷ 211 ∷ 135 ∷ 19 ∷ 145 ∷ 89 ∷ 160 ∷ 101 ∷ 176 ∷ 161 ∷ 102 ∷ 41 ∷ []

file-bytes : Bytes file
unfolding file below
file-bytes = all-below file refl

-- one entry, which ends at byte 76
summary : Summary
summary = record { version = 2; entries = 1; end = 76; nodes = None; records = None; checksum = Matches }

whole-accepted : check 1 work file ≡ Ok summary
unfolding closed file summary
whole-accepted = refl

cut-accepted : check 1 work (take 96 file) ≡ Ok summary
unfolding closed file summary
cut-accepted = refl

-- records spell the file
spelled : (r : Records) × Spells (width_of 1) (hash_of 1) r file
spelled = ((demand3 1 work room).exact sha1-known file file-bytes).0 (summary, whole-accepted)

cut-refused : check 1 work (take 95 file) ≡ denied 5 75
unfolding closed file
cut-refused = refl

-- rewritten, the file is that cut of it: the extension that is passed over is dropped
file-rewritten : rewrite 1 work 1 96 file ≡ good (take 96 file) 96
unfolding closed file
file-rewritten = refl

-- ---- version 4

-- the entry "a"
packed : List ℕ
packed = 68 ∷ 73 ∷ 82 ∷ 67 ∷ 0 ∷ 0 ∷ 0 ∷ 4 ∷ 0 ∷ 0 ∷ 0 ∷ 1 ∷ 0 ∷ 0 ∷ 0 ∷ 0 ∷ 0 ∷ 0 ∷ 0 ∷ 0 ∷ 0 ∷ 0 ∷ 0 ∷ 0 ∷ 0 ∷ 0 ∷ 0 ∷ 0 ∷ 0 ∷ 0 ∷ 0 ∷ 0 ∷ 0 ∷ 0 ∷ 0 ∷ 0 ∷ 0 ∷ 0 ∷ 129 ∷ 164 ∷ 0 ∷ 0 ∷ 0 ∷ 0 ∷ 0 ∷ 0 ∷ 0 ∷ 0 ∷ 0 ∷ 0 ∷ 0 ∷ 0 ∷ 17 ∷ 17 ∷ 17 ∷ 17 ∷ 17 ∷ 17 ∷ 17 ∷ 17 ∷ 17 ∷ 17 ∷ 17 ∷ 17 ∷ 17 ∷ 17 ∷ 17 ∷ 17 ∷ 17 ∷ 17 ∷ 17 ∷ 17 ∷ 0 ∷ 1 ∷ 0 ∷ 97 ∷ 0 ∷ 134 ∷ 118 ∷ 13 ∷ 212 ∷ 225 ∷ 158 ∷ 70 ∷ 37 ∷ 221 ∷ 91 ∷ 228 ∷ 75 ∷ 23 ∷ 216 ∷ 255 ∷ 193 ∷ 181 ∷ 220 ∷ 200 ∷ 101 ∷ []

entry-shown : (e : Entry) × (entry 1 work 0 packed ≡ in_workspace e) × (e.name ≡ 97 ∷ [])
unfolding closed packed
entry-shown = (_, refl, refl)

-- ---- a cache tree and resolve undo

-- the node "a", "2 0"
abbrev node_a : Node
node_a = record { name = 97 ∷ []; count = valid 2; object = replicate 20 85 }

abbrev node_bytes : List ℕ
node_bytes = 97 ∷ 0 ∷ 50 ∷ 32 ∷ 48 ∷ 10 ∷ replicate 20 85

-- a-b, a/b and a/c, the root "3 1", and a "2 0"
full : List ℕ
full = index_bytes 20 3 (plain 20 17 a-b ++ (plain 20 34 a/b ++ plain 20 51 a/c)) (0 ∷ 51 ∷ 32 ∷ 49 ∷ 10 ∷ (replicate 20 68 ++ node_bytes)) (35 ∷ 7 ∷ 143 ∷ 59 ∷ 241 ∷ 156 ∷ 109 ∷ 45 ∷ 53 ∷ 253 ∷ 230 ∷ 13 ∷ 246 ∷ 209 ∷ 177 ∷ 188 ∷ 245 ∷ 132 ∷ 182 ∷ 11 ∷ [])

full-bytes : Bytes full
unfolding full below entry_length
full-bytes = all-below full refl

-- its records
abbrev records : Records
records = record {
  entries = plain_entry 20 17 a-b ∷ plain_entry 20 34 a/b ∷ plain_entry 20 51 a/c ∷ [];
  cache_tree = some (record { root = record { name = []; count = valid 3; object = replicate 20 68 }; subtrees = tree node_a nil nil });
  resolve_undo = some (plan 20 ∷ []);
}

abbrev contents : Contents
contents = record { version = 2; checksum = matches; end = 228; records = records }

full-read : read_file (width_of 1) (hash_of 1) full ≡ good contents 356
unfolding closed full
full-read = refl

full-of-kind : read_kind 1 full ≡ good contents 356
full-of-kind = known-file 1 full sha1-known ∙ full-read

full-spelled : Spells (width_of 1) (hash_of 1) records full
full-spelled = ((demand2 1 work room).records full contents 356 full-bytes full-of-kind).0

full-by-no-other : (r : Records) → Spells (width_of 1) (hash_of 1) r full → r ≡ records
full-by-no-other r h = (demand3 1 work room).one full r records h full-spelled

-- two nodes and one record; node 1, record 0
full-shown :
    (check 1 work full ≡ Ok (record { version = 2; entries = 3; end = 228; nodes = Some 2; records = Some 1; checksum = Matches }))
    × (node 1 work 1 full ≡ in_file (record { node = node_a; level = 2; subtrees = 0 }))
    × (undo 1 work 0 full ≡ in_file (plan 20))
unfolding closed
full-shown = (ap (check_answer work) full-of-kind, ap (node_answer work 1) full-of-kind, ap (undo_answer work 0) full-of-kind)

-- where the names of its entries are, its two nodes and its record
full-places :
    (entry_name_place (width_of 1) 0 full ≡ 74)
    × (entry_name_place (width_of 1) 2 full ≡ 218)
    × (node_place (width_of 1) 0 full ≡ 236)
    × (node_place (width_of 1) 1 full ≡ 261)
    × (undo_place (width_of 1) 0 full ≡ 295)
unfolding closed full entry_place name_place entry_name_place data_from data_place data_in data_of node_start node_place after_undo undo_start undo_place
full-places = (refl, refl, refl, refl, refl)

-- a/c is put with another object name: "-1 1" and "-1 0"
full_put : List ℕ
full_put = index_bytes 20 3 (plain 20 17 a-b ++ (plain 20 34 a/b ++ plain 20 102 a/c)) (0 ∷ 45 ∷ 49 ∷ 32 ∷ 49 ∷ 10 ∷ 97 ∷ 0 ∷ 45 ∷ 49 ∷ 32 ∷ 48 ∷ 10 ∷ []) (136 ∷ 8 ∷ 167 ∷ 152 ∷ 183 ∷ 170 ∷ 191 ∷ 166 ∷ 47 ∷ 160 ∷ 75 ∷ 137 ∷ 14 ∷ 52 ∷ 164 ∷ 190 ∷ 79 ∷ 4 ∷ 131 ∷ 62 ∷ [])

put-done : put 1 work 1 (plain_entry 20 102 a/c) 338 full ≡ good full_put 338
unfolding closed full_put
put-done = ap (put_answer (width_of 1) (hash_of 1) work 1 (plain_entry 20 102 a/c) 338) full-of-kind

put-spelled : Spells (width_of 1) (hash_of 1) (put_record (width_of 1) (plain_entry 20 102 a/c) records) full_put
unfolding fit32 width_of
put-spelled = (((demand2 1 work room).put_in full 1 338 (plain_entry 20 102 a/c) full-bytes refl refl refl).result contents 356 full_put 338 full-read put-done).spelled

-- a-b is removed: "-1 1", and a stays "2 0"
full-removed : List ℕ
full-removed = index_bytes 20 2 (plain 20 34 a/b ++ plain 20 51 a/c) (0 ∷ 45 ∷ 49 ∷ 32 ∷ 49 ∷ 10 ∷ node_bytes) (192 ∷ 209 ∷ 113 ∷ 45 ∷ 3 ∷ 167 ∷ 175 ∷ 218 ∷ 248 ∷ 72 ∷ 207 ∷ 136 ∷ 168 ∷ 154 ∷ 192 ∷ 17 ∷ 76 ∷ 108 ∷ 25 ∷ 55 ∷ [])

abbrev key : Key
key = record { name = a-b; stage = 0 }

remove-done : remove 1 work 1 key 285 full ≡ good full-removed 285
unfolding closed full-removed
remove-done = ap (remove_answer (width_of 1) (hash_of 1) work 1 key 285) full-of-kind

remove-spelled : Spells (width_of 1) (hash_of 1) (remove_record (width_of 1) key records) full-removed
remove-spelled = (((demand2 1 work room).removed full 1 285 key full-bytes).result contents 356 full-removed 285 full-read remove-done).spelled
