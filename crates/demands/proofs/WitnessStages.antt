-- Files with one name at two stages, their checksums left out: a conflict is accepted and its sides are shown; the same with stage 0 for the first is
-- refused. And puts to the conflict.
use mathlib.Core.Path.{◌≡◌, refl, ap}
use mathlib.Core.List.{List, [], ◌∷◌, ◌++◌}
use mathlib.Core.Bool.{false}
use mathlib.Core.Option.{none}
use Prim.Native.Nat.{ℕ, ◌*◌}
use lib.ListN.{replicate}
use Rattle.format.specs.Checksum.{left_out}
use Rattle.format.specs.Reading.{bad, good}
use Rattle.format.specs.Reader.{Contents}
use Rattle.kinds.specs.Kinds.{width_of, hash_of, read_kind}
use Rattle.std.specs.Prelude.{None}
use Rattle.answers.specs.declared.Checksum.TheVariants.{LeftOut}
use Rattle.std.specs.Prelude.{Ok}
use Rattle.format.specs.Refusals.{denied}
use Rattle.answers.specs.Answers.{check_answer, entry_answer, in_file}
use Rattle.answers.specs.Writing.{put_answer}
use Rattle.demands.proofs.Statements.{check, entry, put}
use Rattle.demands.proofs.Samples.{work, closed}
use Rattle.demands.proofs.WitnessLeftOut.{staged}

-- the entry of "a" at a stage, with the object name of twenty bytes b
abbrev side : ℕ → ℕ → List ℕ
side b stage = replicate 24 0 ++ (0 ∷ 0 ∷ 129 ∷ 164 ∷ (replicate 12 0 ++ (replicate 20 b ++ (16 * stage ∷ 1 ∷ 97 ∷ 0 ∷ []))))

-- a stage of "a", then its stage 2
sides : ℕ → List ℕ
sides stage = 68 ∷ 73 ∷ 82 ∷ 67 ∷ 0 ∷ 0 ∷ 0 ∷ 2 ∷ 0 ∷ 0 ∷ 0 ∷ 2 ∷ (side 17 stage ++ (side 34 2 ++ replicate 20 0))

-- ---- stages 1 and 2

abbrev conflict : Contents
conflict = record {
  version = 2;
  checksum = left_out;
  end = 140;
  records = record { entries = staged 17 1 false ∷ staged 34 2 false ∷ []; cache_tree = none; resolve_undo = none };
}

conflict-read : read_kind 1 (sides 1) ≡ good conflict 140
unfolding closed sides
conflict-read = refl

accepted : check 1 work (sides 1) ≡ Ok (record { version = 2; entries = 2; end = 140; nodes = None; records = None; checksum = LeftOut })
unfolding closed
accepted = ap (check_answer work) conflict-read

-- two entries of one name
shown : (entry 1 work 0 (sides 1) ≡ in_file (staged 17 1 false)) × (entry 1 work 1 (sides 1) ≡ in_file (staged 34 2 false))
unfolding closed
shown = (ap (entry_answer work 0) conflict-read, ap (entry_answer work 1) conflict-read)

-- stage 0 is not put; stage 3 is, where the output has room for it
puts : (put 1 work 0 (staged 51 0 false) 1000 (sides 1) ≡ bad 11 0) × (put 1 work 0 (staged 51 3 false) 0 (sides 1) ≡ bad 20 0)
unfolding closed
puts = (
  ap (put_answer (width_of 1) (hash_of 1) work 0 (staged 51 0 false) 1000) conflict-read,
  ap (put_answer (width_of 1) (hash_of 1) work 0 (staged 51 3 false) 0) conflict-read,
)

-- ---- stages 0 and 2

mixed-read : read_kind 1 (sides 0) ≡ bad 11 76
unfolding closed sides
mixed-read = refl

refused : check 1 work (sides 0) ≡ denied 11 76
unfolding closed
refused = ap (check_answer work) mixed-read
