-- What is written of records that were read is, as far as it can be, the very bytes that they were read from.
use mathlib.Core.Path.{◌≡◌, refl, sym, ◌∙◌}
use mathlib.Core.List.{List, [], ◌∷◌, ◌++◌}
use mathlib.Core.Bool.{true}
use Prim.Native.Nat.{ℕ}
use lib.ListN.{length, take}
use lib.Dec.{eqb}
use Rattle.format.specs.Bytes.{decimal, value}
use Rattle.format.specs.Records.{Count, valid, invalid, Node, Stage, Undo}
use Rattle.format.specs.Layout.{CountText, ObjectBytes, IsNode, IsStage, IsUndo, Undos, undos_end, undos_more}
use Rattle.format.specs.Reading.{good}
use Rattle.format.specs.Reader.{Head, read_node, read_undos}
use Rattle.format.specs.Writer.{decimal_of, write_count, write_object, write_node, write_stage, write_undo, write_undos}
use Rattle.format_laws.proofs.Tests.{by-test}
use Rattle.spelling.proofs.Tree.{node-read}
use Rattle.spelling.proofs.Undo.{undos-read}
use Rattle.writing.proofs.Decimals.{decimal_of-value}

-- ---- resolve undo: the whole data

pub stage-bytes : (w : ℕ) (x : Stage) (a : List ℕ) → IsStage w x a → a ≡ write_stage x
unfolding write_stage
stage-bytes w x a h =
    by-test (eqb x.mode 0)
    (λ missing. let k = rw missing at h in rw missing k.1)
    (λ there. let k = rw there at h in rw there k.2)

pub undo-bytes : {w : ℕ} {previous : List ℕ} {u : Undo} {a : List ℕ} → IsUndo w previous u a → a ≡ write_undo u
unfolding write_undo
undo-bytes {w = w} {u = u} h =
    h.bytes
    ∙ rw (
      stage-bytes w u.first h.first_bytes h.first,
      stage-bytes w u.second h.second_bytes h.second,
      stage-bytes w u.third h.third_bytes h.third,
    )
    refl

pub undos-bytes : {w : ℕ} {previous : List ℕ} {us : List Undo} {d : List ℕ} → Undos w previous us d → d ≡ write_undos us
unfolding write_undos
undos-bytes undos_end = refl
undos-bytes (undos_more x y) = rw (undo-bytes x, undos-bytes y) refl

pub undos-copied : (w p fuel : ℕ) (d : List ℕ) (us : List Undo) (m : ℕ) → read_undos w p fuel [] d ≡ good us m → (m ≡ length d) × (write_undos us ≡ d)
undos-copied w p fuel d us m q = let h = undos-read w p fuel [] d us m q in (h.0, sym (undos-bytes h.1))

-- ---- a node of the cache tree

decimal-bytes : (t : List ℕ) (n : ℕ) → decimal t ≡ true → value t ≡ n → t ≡ decimal_of n
decimal-bytes t n d e = rw (← e) (sym (decimal_of-value t d))

object-bytes : (w : ℕ) (c : Count) (object a : List ℕ) → ObjectBytes w c object a → a ≡ write_object c object
unfolding write_object
object-bytes w (valid n) object a h = h.1
object-bytes w invalid object a h = h.1

-- its bytes from the space on
abbrev from_space : Node → ℕ → List ℕ
from_space n subtrees = 32 ∷ (decimal_of subtrees ++ (10 ∷ write_object n.count n.object))

node-is : {w : ℕ} {n : Node} {k : ℕ} {a : List ℕ} (h : IsNode w n k a) → a ≡ n.name ++ (0 ∷ (h.count_text ++ from_space n k))
node-is {w} {n} {k} h =
    h.bytes
    ∙ rw (decimal-bytes h.subtrees_text k h.subtrees_decimal h.subtrees_value, object-bytes w n.count n.object h.tail h.object) refl

valid-text : (c : Count) (n : ℕ) (t : List ℕ) → c ≡ valid n → CountText c t → t ≡ write_count c
unfolding write_count
valid-text c n t is h =
    let k : CountText (valid n) t = rw is at h in
    rw is (decimal-bytes t n k.0 k.1)

-- a valid node is copied whole
pub valid-copied : (w p : ℕ) (s : List ℕ) (h : Head) (m c : ℕ) → read_node w p s ≡ good h m → h.node.count ≡ valid c
    → write_node h.node h.subtrees ≡ take m s
unfolding write_node
valid-copied w p s h m c q is =
    let k = (node-read w p s h m q).1 in
    sym (node-is k ∙ rw (valid-text h.node.count c k.count_text is k.counted) refl)
