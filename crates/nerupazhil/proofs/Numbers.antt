-- No refusal has the number 0: a reply whose refusal is 0 is a success.
use mathlib.Core.Path.{◌≡◌, refl}
use mathlib.Core.List.{List, [], ◌∷◌}
use mathlib.Core.Bool.{Bool, true, false, cond}
use mathlib.Core.Option.{Option, none, some}
use Prim.Native.Nat.{ℕ, zero, suc, ◌<◌}
use native.Mathlib.Omega.{arith}
use lib.ListN.{get_or}
use lib.Dec.{eqb, ltb}
use Rattle.format.specs.Records.{Entry, Key, Count, valid, invalid, Forest, Records}
use Rattle.format.specs.Bytes.{eq_list}
use Rattle.format.specs.Layout.{TREE, REUC}
use Rattle.format.specs.Checksum.{Checksum}
use Rattle.format.specs.Reading.{Read, bad, good, need, shift, bind}
use Rattle.format.specs.Reader.{is_set, read_plain, read_n, read_suffix, read_packed, read_name, read_tail, read_fixed, read_entry, read_entries, read_text, need_some, read_count, read_subtrees, read_object, read_node, read_siblings, read_forest, read_nodes, read_tree, read_mode, read_stage, read_stages, read_undo, read_undos, Seen, read_data, read_extension, read_extensions, read_body, read_file}
use Rattle.format.specs.Requests.{fitting, writing, rewrite_request, put_request, remove_request}

-- ---- answers, and how they are put together

pub record Numbered {A : Type 0} (r : Read A) : Type 0 where
  pub positive : (n p : ℕ) → r ≡ bad n p → 0 < n

pub numbered-bad : {A : Type 0} (n p : ℕ) → 0 < n → Numbered {A = A} (bad n p)
numbered-bad n p h = record { positive = λ i j e. let q : n ≡ i = cc in omega arith }

module _ {A : Type 0} where
  pub numbered-good : (a : A) (m : ℕ) → Numbered (good a m)
  numbered-good a m = record { positive = λ i j e. let z : ◌≡◌ {A = ℕ} 0 1 = cc in absurd (omega arith) }

  pub numbered-need : (t : Bool) (n p : ℕ) (r : Read A) → 0 < n → Numbered r → Numbered (need t n p r)
  unfolding need
  numbered-need true n p r h q = q
  numbered-need false n p r h q = numbered-bad n p h

  numbered-cond : (t : Bool) (r q : Read A) → Numbered r → Numbered q → Numbered (cond t r q)
  numbered-cond true r q h k = h
  numbered-cond false r q h k = k

  numbered-shift : (k : ℕ) (r : Read A) → Numbered r → Numbered (shift k r)
  unfolding shift
  numbered-shift k (bad n p) h = numbered-bad n p (h.positive n p refl)
  numbered-shift k (good a m) h = numbered-good a _

  numbered-bind : {B : Type 0} (r : Read B) (k : B → ℕ → Read A) → Numbered r → ((b : B) (m : ℕ) → Numbered (k b m)) → Numbered (bind r k)
  unfolding bind
  numbered-bind (bad n p) k h q = numbered-bad n p (h.positive n p refl)
  numbered-bind (good b m) k h q = numbered-shift m (k b m) (q b m)

  numbered-some : {B : Type 0} (o : Option B) (n p : ℕ) (k : B → Read A) → 0 < n → ((b : B) → Numbered (k b)) → Numbered (need_some o n p k)
  unfolding need_some
  numbered-some none n p k h q = numbered-bad n p h
  numbered-some (some b) n p k h q = q b

-- ---- entries

plain : (f p field : ℕ) (s : List ℕ) → Numbered (read_plain f p field s)
unfolding read_plain
plain f p field s =
    numbered-need _ _ _ _ (omega arith)
    (numbered-need _ _ _ _ (omega arith) (numbered-need _ _ _ _ (omega arith) (numbered-need _ _ _ _ (omega arith) (numbered-good _ _))))

number : (p most : ℕ) (s : List ℕ) → Numbered (read_n p most s)
unfolding read_n
number p most s =
    numbered-need _ _ _ _ (omega arith)
    (numbered-cond (ltb (get_or s 0 0) 128) _ _
    (numbered-need _ 10 _ _ (omega arith) (numbered-good _ _))
    (numbered-need _ 6 _ _ (omega arith) (numbered-need _ 10 _ _ (omega arith) (numbered-good _ _))))

suffix : (p : ℕ) (previous : List ℕ) (field n : ℕ) (s : List ℕ) → Numbered (read_suffix p previous field n s)
unfolding read_suffix
suffix p previous field n s = numbered-need _ _ _ _ (omega arith) (numbered-need _ _ _ _ (omega arith) (numbered-good _ _))

packed : (p : ℕ) (previous : List ℕ) (field : ℕ) (s : List ℕ) → Numbered (read_packed p previous field s)
unfolding read_packed
packed p previous field s = numbered-bind _ _ (number _ _ _) λ n m. suffix _ _ _ _ _

name : (v f p : ℕ) (previous : List ℕ) (field : ℕ) (s : List ℕ) → Numbered (read_name v f p previous field s)
unfolding read_name
name v f p previous field s = numbered-cond (eqb v 4) _ _ (packed _ _ _ _) (plain _ _ _ _)

tail : (w v : ℕ) (k : Key) (p f x y : ℕ) (s : List ℕ) → Numbered (read_tail w v k p f x y s)
unfolding read_tail
tail w v k p f x y s = numbered-bind _ _ (name _ _ _ _ _ _) λ t m. numbered-need _ _ _ _ (omega arith) (numbered-good _ _)

fixed : (w v : ℕ) (k : Key) (p x : ℕ) (s : List ℕ) → Numbered (read_fixed w v k p x s)
unfolding read_fixed
fixed w v k p x s =
    numbered-need _ _ _ _ (omega arith)
    (numbered-cond (is_set 16384 x) _ _
    (numbered-need _ 6 _ _ (omega arith) (numbered-need _ 8 _ _ (omega arith) (numbered-shift _ _ (tail _ _ _ _ _ _ _ _))))
    (numbered-shift _ _ (tail _ _ _ _ _ _ _ _)))

entry : (w v : ℕ) (k : Key) (p : ℕ) (s : List ℕ) → Numbered (read_entry w v k p s)
unfolding read_entry
entry w v k p s = numbered-need _ _ _ _ (omega arith) (numbered-need _ _ _ _ (omega arith) (fixed _ _ _ _ _ _))

entries : (w v n : ℕ) (k : Key) (p : ℕ) (s : List ℕ) → Numbered (read_entries w v n k p s)
unfolding read_entries
entries w v zero k p s = numbered-good _ _
entries w v (suc n) k p s = numbered-bind _ _ (entry _ _ _ _ _) λ e m. numbered-bind _ _ (entries w v n _ _ _) λ es o. numbered-good _ _

-- ---- the cache tree

text : (b n p : ℕ) (s : List ℕ) → 0 < n → Numbered (read_text b n p s)
unfolding read_text
text b n p s h = numbered-need _ _ _ _ h (numbered-good _ _)

count : (p : ℕ) (s : List ℕ) → Numbered (read_count p s)
unfolding read_count
count p s = numbered-bind _ _ (text _ _ _ _ (omega arith)) λ t m. numbered-some _ _ _ _ (omega arith) λ c. numbered-good _ _

subtrees : (p : ℕ) (s : List ℕ) → Numbered (read_subtrees p s)
unfolding read_subtrees
subtrees p s = numbered-bind _ _ (text _ _ _ _ (omega arith)) λ t m. numbered-need _ _ _ _ (omega arith) (numbered-good _ _)

object : (w p : ℕ) (c : Count) (s : List ℕ) → Numbered (read_object w p c s)
unfolding read_object
object w p (valid n) s = numbered-need _ _ _ _ (omega arith) (numbered-good _ _)
object w p invalid s = numbered-good _ _

node : (w p : ℕ) (s : List ℕ) → Numbered (read_node w p s)
unfolding read_node
node w p s =
    numbered-bind _ _ (text _ _ _ _ (omega arith)) λ a m.
    numbered-bind _ _ (count _ _) λ b n. numbered-bind _ _ (subtrees _ _) λ c o. numbered-bind _ _ (object _ _ _ _) λ d q. numbered-good _ _

siblings : (w p : ℕ) (go : ℕ → List ℕ → Read Forest) → ((k : ℕ) (s : List ℕ) → Numbered (go k s)) → (k : ℕ) (s : List ℕ) → Numbered (read_siblings w p go k s)
unfolding read_siblings
siblings w p go h zero s = numbered-good _ _
siblings w p go h (suc k) s =
    numbered-bind _ _ (node _ _ _) λ x m.
    numbered-need _ _ _ _ (omega arith)
    (numbered-bind _ _ (h _ _) λ kids n. numbered-bind _ _ (siblings w p go h k _) λ after o. numbered-good _ _)

forest : (w p levels k : ℕ) (s : List ℕ) → Numbered (read_forest w p levels k s)
unfolding read_forest
forest w p zero zero s = numbered-good _ _
forest w p zero (suc k) s = numbered-bad _ _ (omega arith)
forest w p (suc levels) k s = siblings w p (read_forest w p levels) (forest w p levels) k s

nodes : (w p : ℕ) (s : List ℕ) → Numbered (read_nodes w p s)
unfolding read_nodes
nodes w p s =
    numbered-bind _ _ (node _ _ _) λ h m. numbered-need _ _ _ _ (omega arith) (numbered-bind _ _ (forest _ _ _ _ _) λ kids n. numbered-good _ _)

tree : (w : ℕ) (ns : List (List ℕ)) (p : ℕ) (s : List ℕ) → Numbered (read_tree w ns p s)
unfolding read_tree
tree w ns p s =
    numbered-bind _ _ (nodes _ _ _) λ t m.
    numbered-need _ _ _ _ (omega arith) (numbered-need _ _ _ _ (omega arith) (numbered-need _ _ _ _ (omega arith) (numbered-good _ _)))

-- ---- resolve undo

mode : (p : ℕ) (s : List ℕ) → Numbered (read_mode p s)
unfolding read_mode
mode p s = numbered-bind _ _ (text _ _ _ _ (omega arith)) λ t m. numbered-some _ _ _ _ (omega arith) λ x. numbered-good _ _

stage : (w p m : ℕ) (s : List ℕ) → Numbered (read_stage w p m s)
unfolding read_stage
stage w p m s = numbered-cond (eqb m 0) _ _ (numbered-good _ _) (numbered-need _ 17 _ _ (omega arith) (numbered-good _ _))

stages : (w p : ℕ) (path : List ℕ) (a b c : ℕ) (s : List ℕ) → Numbered (read_stages w p path a b c s)
unfolding read_stages
stages w p path a b c s =
    numbered-bind _ _ (stage _ _ _ _) λ x m.
    numbered-bind _ _ (stage _ _ _ _) λ y n. numbered-bind _ _ (stage _ _ _ _) λ z o. numbered-need _ _ _ _ (omega arith) (numbered-good _ _)

undo : (w p : ℕ) (previous s : List ℕ) → Numbered (read_undo w p previous s)
unfolding read_undo
undo w p previous s =
    numbered-bind _ _ (text _ _ _ _ (omega arith)) λ path m.
    numbered-need _ _ _ _ (omega arith)
    (numbered-bind _ _ (mode _ _) λ a n. numbered-bind _ _ (mode _ _) λ b o. numbered-bind _ _ (mode _ _) λ c q. stages _ _ _ _ _ _ _)

undos : (w p fuel : ℕ) (previous s : List ℕ) → Numbered (read_undos w p fuel previous s)
unfolding read_undos
undos w p zero previous [] = numbered-good _ _
undos w p (suc fuel) previous [] = numbered-good _ _
undos w p zero previous (x ∷ s) = numbered-bad _ _ (omega arith)
undos w p (suc fuel) previous (x ∷ s) = numbered-bind _ _ (undo _ _ _ _) λ u m. numbered-bind _ _ (undos w p fuel _ _) λ us n. numbered-good _ _

-- ---- extensions, and the file

contents : (w : ℕ) (ns : List (List ℕ)) (k : Seen) (p : ℕ) (s d : List ℕ) → Numbered (read_data w ns k p s d)
unfolding read_data
contents w ns k p s d =
    numbered-cond (eq_list s TREE) _ _
    (numbered-need _ 14 _ _ (omega arith) (numbered-bind _ _ (tree _ _ _ _) λ t m. numbered-good _ _))
    (numbered-cond (eq_list s REUC) _ _ (numbered-need _ 14 _ _ (omega arith) (numbered-bind _ _ (undos _ _ _ _ _) λ us m. numbered-good _ _)) (numbered-good _ _))

extension : (w : ℕ) (ns : List (List ℕ)) (k : Seen) (p : ℕ) (s : List ℕ) → Numbered (read_extension w ns k p s)
unfolding read_extension
extension w ns k p s =
    numbered-need _ _ _ _ (omega arith)
    (numbered-need _ _ _ _ (omega arith) (numbered-need _ _ _ _ (omega arith) (numbered-shift _ _ (contents _ _ _ _ _ _))))

extensions : (w : ℕ) (ns : List (List ℕ)) (fuel : ℕ) (k : Seen) (p : ℕ) (s : List ℕ) → Numbered (read_extensions w ns fuel k p s)
unfolding read_extensions
extensions w ns zero k p [] = numbered-good _ _
extensions w ns (suc fuel) k p [] = numbered-good _ _
extensions w ns zero k p (x ∷ s) = numbered-bad _ _ (omega arith)
extensions w ns (suc fuel) k p (x ∷ s) = numbered-bind _ _ (extension _ _ _ _ _) λ e m. numbered-bind _ _ (extensions w ns fuel _ _ _) λ es n. numbered-good _ _

body : (w v : ℕ) (sum : Checksum) (b : List ℕ) → Numbered (read_body w v sum b)
unfolding read_body
body w v sum b =
    numbered-shift _ _ (numbered-bind _ _ (entries _ _ _ _ _ _) λ es m. numbered-bind _ _ (extensions _ _ _ _ _ _) λ xs n. numbered-good _ _)

pub file-numbered : (w : ℕ) (hash : List ℕ → List ℕ) (f : List ℕ) → Numbered (read_file w hash f)
unfolding read_file
file-numbered w hash f =
    numbered-need _ _ _ _ (omega arith)
    (numbered-need _ _ _ _ (omega arith)
    (numbered-need _ _ _ _ (omega arith) (numbered-need _ _ _ _ (omega arith) (numbered-need _ _ _ _ (omega arith) (body _ _ _ _)))))

-- ---- what is asked of a file that was read

module _ (w : ℕ) (hash : List ℕ → List ℕ) (asked : ℕ) where
  written : (room : ℕ) (r : Records) → Numbered (writing w hash asked room r)
  unfolding writing fitting
  written room r =
      numbered-need _ _ _ _ (omega arith) (numbered-need _ _ _ _ (omega arith) (numbered-need _ _ _ _ (omega arith) (numbered-good _ _)))

  pub rewrite-numbered : (room : ℕ) (r : Records) → Numbered (rewrite_request w hash asked room r)
  unfolding rewrite_request
  rewrite-numbered room r = numbered-need _ _ _ _ (omega arith) (written _ _)

  pub put-numbered : (e : Entry) (room : ℕ) (r : Records) → Numbered (put_request w hash asked e room r)
  unfolding put_request
  put-numbered e room r =
      numbered-need _ _ _ _ (omega arith)
      (numbered-need _ _ _ _ (omega arith)
      (numbered-need _ _ _ _ (omega arith) (numbered-need _ _ _ _ (omega arith) (numbered-need _ _ _ _ (omega arith) (written _ _)))))

  pub remove-numbered : (k : Key) (room : ℕ) (r : Records) → Numbered (remove_request w hash asked k room r)
  unfolding remove_request
  remove-numbered k room r = numbered-need _ _ _ _ (omega arith) (numbered-need _ _ _ _ (omega arith) (written _ _))
