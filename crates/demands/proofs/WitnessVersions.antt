-- A file of version 4 with "a-b" and "a/b", written in the versions that are asked for.
use mathlib.Core.Path.{◌≡◌, refl, ap, ◌∙◌}
use mathlib.Core.List.{List, [], ◌∷◌, ◌++◌}
use mathlib.Core.Bool.{true, false}
use mathlib.Core.Option.{none}
use Prim.Native.Nat.{ℕ}
use lib.ListN.{replicate}
use Rattle.format.specs.Checksum.{matches}
use Rattle.format.specs.Records.{Entry, Key}
use Rattle.format.specs.Reading.{bad, good}
use Rattle.format.specs.Reader.{Contents}
use Rattle.format.proofs.Cases.{a-b, a/b}
use Rattle.kinds.specs.Kinds.{width_of, hash_of, read_kind}
use Rattle.answers.specs.Writing.{rewrite_answer, put_answer, remove_answer}
use Rattle.demands.proofs.Statements.{rewrite, put, remove}
use Rattle.demands.proofs.Demands.{versions}
use Rattle.demands.proofs.Samples.{work, closed, room, fixed_part, plain, plain_entry}

-- ---- what is read

-- "a/b" is N = 3 and "a/b"; and, as it is written, N = 2 and "/b"
loose : List ℕ
loose = 68 ∷ 73 ∷ 82 ∷ 67 ∷ 0 ∷ 0 ∷ 0 ∷ 4 ∷ 0 ∷ 0 ∷ 0 ∷ 2 ∷ (fixed_part 20 17 ++ (0 ∷ 97 ∷ 45 ∷ 98 ∷ 0 ∷ (fixed_part 20 34 ++ (3 ∷ 97 ∷ 47 ∷ 98 ∷ 0 ∷ 233 ∷ 186 ∷ 212 ∷ 237 ∷ 56 ∷ 66 ∷ 219 ∷ 116 ∷ 41 ∷ 202 ∷ 147 ∷ 115 ∷ 92 ∷ 97 ∷ 53 ∷ 187 ∷ 96 ∷ 184 ∷ 85 ∷ 184 ∷ []))))

tight : List ℕ
tight = 68 ∷ 73 ∷ 82 ∷ 67 ∷ 0 ∷ 0 ∷ 0 ∷ 4 ∷ 0 ∷ 0 ∷ 0 ∷ 2 ∷ (fixed_part 20 17 ++ (0 ∷ 97 ∷ 45 ∷ 98 ∷ 0 ∷ (fixed_part 20 34 ++ (2 ∷ 47 ∷ 98 ∷ 0 ∷ 108 ∷ 238 ∷ 58 ∷ 136 ∷ 214 ∷ 189 ∷ 142 ∷ 190 ∷ 177 ∷ 128 ∷ 188 ∷ 51 ∷ 27 ∷ 208 ∷ 72 ∷ 2 ∷ 55 ∷ 2 ∷ 138 ∷ 68 ∷ []))))

abbrev contents : Contents
contents = record {
  version = 4;
  checksum = matches;
  end = 146;
  records = record { entries = plain_entry 20 17 a-b ∷ plain_entry 20 34 a/b ∷ []; cache_tree = none; resolve_undo = none };
}

loose-read : read_kind 1 loose ≡ good contents 146
unfolding closed loose
loose-read = refl

-- "a/b" with skip-worktree
abbrev skipping : Entry
skipping = record {
  numbers = 0 ∷ 0 ∷ 0 ∷ 0 ∷ 0 ∷ 0 ∷ 0x81a4 ∷ 0 ∷ 0 ∷ 0 ∷ [];
  object = replicate 20 34;
  assume_valid = false;
  stage = 0;
  skip_worktree = true;
  intent_to_add = false;
  name = a/b;
}

abbrev key : Key
key = record { name = a/b; stage = 0 }

-- ---- what is written

-- version 4 for 4, with a smaller N, and so for 0
packed : rewrite 1 work 4 165 loose ≡ good tight 165
unfolding closed tight
packed = ap (rewrite_answer (width_of 1) (hash_of 1) work 4 165) loose-read

default-packed : rewrite 1 work 0 165 loose ≡ good tight 165
default-packed = ((versions 1 work room).default loose 165 skipping key).0 ∙ packed

-- version 2 for 1
version-2 : List ℕ
version-2 = 68 ∷ 73 ∷ 82 ∷ 67 ∷ 0 ∷ 0 ∷ 0 ∷ 2 ∷ 0 ∷ 0 ∷ 0 ∷ 2 ∷ (plain 20 17 a-b ++ (plain 20 34 a/b ++ (147 ∷ 102 ∷ 100 ∷ 130 ∷ 243 ∷ 31 ∷ 142 ∷ 131 ∷ 58 ∷ 31 ∷ 236 ∷ 98 ∷ 136 ∷ 211 ∷ 197 ∷ 151 ∷ 77 ∷ 26 ∷ 40 ∷ 216 ∷ [])))

lowest : rewrite 1 work 1 176 loose ≡ good version-2 176
unfolding closed version-2
lowest = ap (rewrite_answer (width_of 1) (hash_of 1) work 1 176) loose-read

-- and version 3 with an entry that needs the extended word
version-3 : List ℕ
version-3 = 68 ∷ 73 ∷ 82 ∷ 67 ∷ 0 ∷ 0 ∷ 0 ∷ 3 ∷ 0 ∷ 0 ∷ 0 ∷ 2 ∷ (plain 20 17 a-b ++ (replicate 24 0 ++ (0 ∷ 0 ∷ 129 ∷ 164 ∷ (replicate 12 0 ++ (replicate 20 34 ++ (64 ∷ 3 ∷ 64 ∷ 0 ∷ 97 ∷ 47 ∷ 98 ∷ 0 ∷ 0 ∷ 0 ∷ 0 ∷ 0 ∷ 59 ∷ 34 ∷ 133 ∷ 23 ∷ 33 ∷ 107 ∷ 52 ∷ 78 ∷ 93 ∷ 98 ∷ 79 ∷ 20 ∷ 230 ∷ 238 ∷ 135 ∷ 40 ∷ 201 ∷ 47 ∷ 69 ∷ 151 ∷ []))))))

lowest-extended : put 1 work 1 skipping 176 loose ≡ good version-3 176
unfolding closed version-3
lowest-extended = ap (put_answer (width_of 1) (hash_of 1) work 1 skipping 176) loose-read

-- ---- what is refused

-- the extended word in version 2, where the result has it
extended-read : read_kind 1 version-3
    ≡ good (record { version = 3; checksum = matches; end = 156; records = record { entries = plain_entry 20 17 a-b ∷ skipping ∷ []; cache_tree = none; resolve_undo = none } }) 156
unfolding closed version-3
extended-read = refl

worded : (rewrite 1 work 2 176 version-3 ≡ bad 21 0) × (put 1 work 2 skipping 176 loose ≡ bad 21 0) × (remove 1 work 2 key 0 version-3 ≡ bad 20 0)
unfolding closed
worded = (
  ap (rewrite_answer (width_of 1) (hash_of 1) work 2 176) extended-read,
  ap (put_answer (width_of 1) (hash_of 1) work 2 skipping 176) loose-read,
  ap (remove_answer (width_of 1) (hash_of 1) work 2 key 0) extended-read,
)

-- 5 and the greatest number
above : (rewrite 1 work 5 176 loose ≡ bad 4 0) × (put 1 work 4294967295 skipping 176 loose ≡ bad 4 0)
unfolding closed
above = (ap (rewrite_answer (width_of 1) (hash_of 1) work 5 176) loose-read, ap (put_answer (width_of 1) (hash_of 1) work 4294967295 skipping 176) loose-read)
