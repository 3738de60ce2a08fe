-- The statements of the demands are not empty for SHA-256: a file with an entry, a cache tree and resolve undo, spelled by one set of records,
-- and a put. A file of one kind is refused as one of the other, and any file as one of an unknown kind.
use mathlib.Core.Path.{◌≡◌, refl, ap, ◌∙◌}
use mathlib.Core.List.{List, [], ◌∷◌, ◌++◌}
use mathlib.Core.Option.{some}
use Prim.Native.Nat.{ℕ}
use lib.ListN.{replicate}
use Rattle.format.specs.Bytes.{Bytes, fit32}
use Rattle.format.specs.Records.{Records, valid, Node, nil}
use Rattle.format.specs.Layout.{entry_length, Spells}
use Rattle.format.specs.Checksum.{matches}
use Rattle.format.specs.Reading.{good}
use Rattle.format.specs.Reader.{Contents, read_file}
use Rattle.format.specs.Requests.{put_record}
use Rattle.format.proofs.Cases.{a-b, a/b}
use Rattle.kinds.specs.Kinds.{ok_kind, width_of, hash_of, read_kind}
use Rattle.kinds.proofs.Laws.{sha256-known, known-file}
use Rattle.answers.specs.declared.Checksum.TheVariants.{Matches}
use Rattle.std.specs.Prelude.{Some}
use Rattle.std.specs.Prelude.{Ok}
use Rattle.format.specs.Refusals.{denied}
use Rattle.answers.specs.Answers.{too_small, check_answer, entry_answer, node_answer, undo_answer, in_file}
use Rattle.answers.specs.Writing.{put_answer}
use Rattle.demands.proofs.Statements.{check, entry, node, undo, put}
use Rattle.demands.proofs.Demands.{demand1, demand2, demand3}
use Rattle.demands.proofs.Samples.{work, closed, room, below, all-below, plain, index_bytes, plain_entry, plan}
use Rattle.demands.proofs.Witness.{file}

-- a-b, the root "1 0", and plan
unfoldable pub full : List ℕ
full = index_bytes 32 1 (plain 32 17 a-b) (0 ∷ 49 ∷ 32 ∷ 48 ∷ 10 ∷ replicate 32 68) (190 ∷ 65 ∷ 210 ∷ 85 ∷ 101 ∷ 101 ∷ 25 ∷ 65 ∷ 254 ∷ 113 ∷ 20 ∷ 255 ∷ 75 ∷ 78 ∷ 112 ∷ 201 ∷ 92 ∷ 115 ∷ 252 ∷ 25 ∷ 220 ∷ 182 ∷ 65 ∷ 58 ∷ 232 ∷ 93 ∷ 31 ∷ 151 ∷ 88 ∷ 194 ∷ 28 ∷ 191 ∷ [])

full-bytes : Bytes full
unfolding full below entry_length
full-bytes = all-below full refl

abbrev root : Node
root = record { name = []; count = valid 1; object = replicate 32 68 }

abbrev records : Records
records = record { entries = plain_entry 32 17 a-b ∷ []; cache_tree = some (record { root = root; subtrees = nil }); resolve_undo = some (plan 32 ∷ []) }

abbrev contents : Contents
contents = record { version = 2; checksum = matches; end = 92; records = records }

full-read : read_file (width_of 2) (hash_of 2) full ≡ good contents 230
unfolding closed full
full-read = refl

full-of-kind : read_kind 2 full ≡ good contents 230
full-of-kind = known-file 2 full sha256-known ∙ full-read

full-spelled : Spells (width_of 2) (hash_of 2) records full
full-spelled = ((demand2 2 work room).records full contents 230 full-bytes full-of-kind).0

full-by-no-other : (r : Records) → Spells (width_of 2) (hash_of 2) r full → r ≡ records
full-by-no-other r h = (demand3 2 work room).one full r records h full-spelled

-- accepted, and its entry, its node and its record shown
full-shown :
    (check 2 work full ≡ Ok (record { version = 2; entries = 1; end = 92; nodes = Some 1; records = Some 1; checksum = Matches }))
    × (entry 2 work 0 full ≡ in_file (plain_entry 32 17 a-b))
    × (node 2 work 0 full ≡ in_file (record { node = root; level = 1; subtrees = 0 }))
    × (undo 2 work 0 full ≡ in_file (plan 32))
unfolding closed
full-shown =
    (ap (check_answer work) full-of-kind, ap (entry_answer work 0) full-of-kind, ap (node_answer work 0) full-of-kind, ap (undo_answer work 0) full-of-kind)

-- a/b is put: the root is "-1 0"
full_put : List ℕ
full_put = index_bytes 32 2 (plain 32 17 a-b ++ plain 32 34 a/b) (0 ∷ 45 ∷ 49 ∷ 32 ∷ 48 ∷ 10 ∷ []) (171 ∷ 197 ∷ 183 ∷ 194 ∷ 182 ∷ 183 ∷ 171 ∷ 9 ∷ 221 ∷ 222 ∷ 113 ∷ 171 ∷ 128 ∷ 91 ∷ 177 ∷ 52 ∷ 141 ∷ 157 ∷ 86 ∷ 10 ∷ 188 ∷ 112 ∷ 178 ∷ 132 ∷ 160 ∷ 60 ∷ 104 ∷ 187 ∷ 228 ∷ 145 ∷ 97 ∷ 199 ∷ [])

put-done : put 2 work 1 (plain_entry 32 34 a/b) 311 full ≡ good full_put 311
unfolding closed full_put
put-done = ap (put_answer (width_of 2) (hash_of 2) work 1 (plain_entry 32 34 a/b) 311) full-of-kind

put-spelled : Spells (width_of 2) (hash_of 2) (put_record (width_of 2) (plain_entry 32 34 a/b) records) full_put
unfolding fit32 width_of
put-spelled = (((demand2 2 work room).put_in full 1 311 (plain_entry 32 34 a/b) full-bytes refl refl refl).result contents 230 full_put 311 full-read put-done).spelled

-- ---- the wrong kind

-- the file of SHA-256 as one of SHA-1, and the other way round: the checksum is not that of the kind
given-as-sha1 : check 1 work full ≡ denied 5 242
unfolding closed full
given-as-sha1 = refl

given-as-sha256 : check 2 work file ≡ denied 5 166
unfolding closed file
given-as-sha256 = refl

-- kinds 0 and 3, whatever the file, and 19 before 29
unknown-refused : (f : List ℕ) → (check 0 work f ≡ denied 29 0) × (check 3 work f ≡ denied 29 0) × (check 3 [] f ≡ denied 19 0)
unfolding ok_kind too_small
unknown-refused f = (((demand1 0 work).unknown room refl f).0, ((demand1 3 work).unknown room refl f).0, ((demand1 3 []).small refl f).0)
