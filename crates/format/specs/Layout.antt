-- When records spell a file. No reader is named here. w is the width of an object name and of the checksum, 20 bytes for SHA-1.
use Rattle.std.specs.Prelude.{◌≡◌, List, [], ◌∷◌, ◌++◌, map, Bool, true, false, cond, not, ◌&&◌, ◌||◌, ◌⊎◌, ℕ, suc, ◌+◌, ◌-◌, ◌*◌, ◌/◌, ◌≤◌, ◌<◌, length, take, drop, get_or, replicate, eqb, leb}
use Rattle.std.proofs.Math.Option.{Option, none, some}
use Rattle.format.specs.Bytes.{put16, put32, put32s, fit32, put_n, eq_list, lacks, decimal, value}
use Rattle.format.specs.Names.{ok_name, length_field, compare, is_below, rises}
use Rattle.format.specs.Records.{Entry, mode_of, Key, key_of, start, Count, valid, invalid, Node, Forest, nil, tree, Tree, width, Stage, Undo, Records}

-- one statement or another, by a test
abbrev pub when : Bool → Type 0 → Type 0 → Type 0
when true A B = A
when false A B = B

-- ---- one entry

-- 100644, 100755, 120000 or 160000 octal
unfoldable pub ok_mode : ℕ → Bool
ok_mode m = eqb m 0x81a4 || (eqb m 0x81ed || (eqb m 0xa000 || eqb m 0xe000))

-- the bytes before the name: ten numbers, the object name, the flags, and perhaps the extended word
unfoldable pub fixed_length : ℕ → Bool → ℕ
fixed_length w extended = 40 + w + cond extended 4 2

-- the length of an entry of versions 2 and 3 with f bytes before a name of n: 1 to 8 NULs follow the name
unfoldable pub entry_length : ℕ → ℕ → ℕ
entry_length f n = 8 * ((f + n) / 8) + 8

abbrev pub bit : Bool → ℕ
bit true = 1
bit false = 0

-- from the top: assume-valid, extended, 2 bits stage, 12 bits of length
unfoldable pub flags_of : Bool → Entry → ℕ
flags_of extended e = bit e.assume_valid * 32768 + bit extended * 16384 + e.stage * 4096 + length_field (length e.name)

-- from the top: a zero, skip-worktree, intent-to-add, 13 zeros
unfoldable pub word_of : Entry → ℕ
word_of e = bit e.skip_worktree * 16384 + bit e.intent_to_add * 8192

-- the extended word is never there in version 2; without it neither of its bits is set
unfoldable pub ok_extended : ℕ → Bool → Entry → Bool
ok_extended v true e = not (eqb v 2)
ok_extended v false e = not e.skip_worktree && not e.intent_to_add

-- the name in versions 2 and 3: followed by NULs
abbrev pub Plain : ℕ → List ℕ → List ℕ → Type 0
Plain f name a = a ≡ name ++ replicate (entry_length f (length name) - (f + length name)) 0

-- the name in version 4: it is the name before less its last n bytes, then s
pub record Packed (previous name a : List ℕ) : Type 0 where
  pub n : ℕ
  pub s : List ℕ
  pub within : n ≤ length previous
  pub joined : name ≡ take (length previous - n) previous ++ s
  pub bytes : a ≡ put_n n ++ (s ++ (0 ∷ []))

abbrev pub NameBytes : ℕ → ℕ → List ℕ → List ℕ → List ℕ → Type 0
NameBytes v f previous name a = when (eqb v 4) (Packed previous name a) (Plain f name a)

-- the bytes a of the entry e of version v, after an entry with the key k
pub record IsEntry (w v : ℕ) (k : Key) (e : Entry) (a : List ℕ) : Type 0 where
  pub ten : length e.numbers ≡ 10
  pub fit : fit32 e.numbers ≡ true
  pub mode : ok_mode (mode_of e) ≡ true
  pub object : length e.object ≡ w
  pub stage : e.stage < 4
  pub name : ok_name e.name ≡ true
  pub order : rises (compare k.name e.name) k.stage e.stage ≡ true
  pub extended : Bool
  pub extended_ok : ok_extended v extended e ≡ true
  pub tail : List ℕ
  pub named : NameBytes v (fixed_length w extended) k.name e.name tail
  pub bytes : a ≡ put32s e.numbers ++ (e.object ++ (put16 (flags_of extended e) ++ (cond extended (put16 (word_of e)) [] ++ tail)))

pub data Entries (w v : ℕ) : Key → List Entry → List ℕ → Type 0 where
  entries_end : {k : Key} → Entries w v k [] []
  entries_more : {k : Key} {e : Entry} {es : List Entry} {a b : List ℕ} → IsEntry w v k e a → Entries w v (key_of e) es b → Entries w v k (e ∷ es) (a ++ b)

-- ---- the cache tree

-- the text of an entry count; every negative number says "invalid"
abbrev pub CountText : Count → List ℕ → Type 0
CountText (valid n) t = (decimal t ≡ true) × (value t ≡ n) × (n ≤ 2147483647)
CountText invalid t = (u : List ℕ) × (t ≡ 45 ∷ u) × (decimal u ≡ true) × (1 ≤ value u) × (value u ≤ 2147483648)

-- the object name: w bytes of a valid node; none of an invalid one, which shows zeros
abbrev pub ObjectBytes : ℕ → Count → List ℕ → List ℕ → Type 0
ObjectBytes w (valid n) object a = (length object ≡ w) × (a ≡ object)
ObjectBytes w invalid object a = (object ≡ replicate w 0) × (a ≡ [])

-- the bytes of one node and its number of subtrees: name, NUL, entry count, space, number of subtrees, LF, object name
pub record IsNode (w : ℕ) (n : Node) (subtrees : ℕ) (a : List ℕ) : Type 0 where
  pub named : lacks 0 n.name ≡ true
  pub count_text : List ℕ
  pub counted : CountText n.count count_text
  pub subtrees_text : List ℕ
  pub subtrees_decimal : decimal subtrees_text ≡ true
  pub subtrees_value : value subtrees_text ≡ subtrees
  pub subtrees_fit : subtrees ≤ 2147483647
  pub tail : List ℕ
  pub object : ObjectBytes w n.count n.object tail
  pub bytes : a ≡ n.name ++ (0 ∷ (count_text ++ (32 ∷ (subtrees_text ++ (10 ∷ tail)))))

-- below the root a name has 1 byte or more, and no "/"
unfoldable pub ok_node_name : List ℕ → Bool
ok_node_name s = leb 1 (length s) && lacks 47 s

-- siblings with at most the given number of levels, top-down and depth first
pub data Siblings (w : ℕ) : ℕ → Forest → List ℕ → Type 0 where
  siblings_end : {levels : ℕ} → Siblings w levels nil []
  siblings_more :
      {levels : ℕ} {n : Node} {kids after : Forest} {a b c : List ℕ} →
      ok_node_name n.name ≡ true →
      IsNode w n (width kids) a →
      Siblings w levels kids b →
      Siblings w (suc levels) after c →
      Siblings w (suc levels) (tree n kids after) (a ++ (b ++ c))

-- no two siblings have one name
unfoldable pub has : List ℕ → Forest → Bool
has s nil = false
has s (tree n kids after) = cond (eq_list s n.name) true (has s after)

unfoldable pub distinct : Forest → Bool
distinct nil = true
distinct (tree n kids after) = not (has n.name after) && (distinct kids && distinct after)

-- the whole data: the root, whose name is empty, and at most 127 levels below it
pub record IsTree (w : ℕ) (t : Tree) (a : List ℕ) : Type 0 where
  pub root_bytes : List ℕ
  pub rest_bytes : List ℕ
  pub root_name : t.root.name ≡ []
  pub root_node : IsNode w t.root (width t.subtrees) root_bytes
  pub rest : Siblings w 127 t.subtrees rest_bytes
  pub differ : distinct t.subtrees ≡ true
  pub bytes : a ≡ root_bytes ++ rest_bytes

-- ---- the counts of a cache tree. Names are those of the entries in a directory, from there on

-- whether s begins with d and "/"
unfoldable pub under : List ℕ → List ℕ → Bool
under [] [] = false
under [] (y ∷ s) = eqb y 47
under (x ∷ d) [] = false
under (x ∷ d) (y ∷ s) = cond (eqb x y) (under d s) false

-- the names in the directory d, from there on
unfoldable pub inside : List ℕ → List (List ℕ) → List (List ℕ)
inside d [] = []
inside d (s ∷ ss) = cond (under d s) (drop (length d + 1) s ∷ inside d ss) (inside d ss)

-- how many have no further "/"
unfoldable pub files : List (List ℕ) → ℕ
files [] = 0
files (s ∷ ss) = cond (lacks 47 s) 1 0 + files ss

-- whether all siblings are valid, and the sum of their counts
abbrev pub is_valid : Count → Bool
is_valid (valid c) = true
is_valid invalid = false

unfoldable pub all_valid : Forest → Bool
all_valid nil = true
all_valid (tree n kids after) = is_valid n.count && all_valid after

unfoldable pub sum : Forest → ℕ
sum nil = 0
sum (tree n kids after) = number n.count + sum after
  where
    number : Count → ℕ
    number (valid c) = c
    number invalid = 0

-- a valid node counts the names in its directory: those with no further "/" and those that its subtrees, all valid, count
unfoldable pub ok_count : Count → List (List ℕ) → Forest → Bool
ok_count invalid names kids = true
ok_count (valid c) names kids = eqb c (length names) && (all_valid kids && eqb c (files names + sum kids))

unfoldable pub ok_counts : List (List ℕ) → Forest → Bool
ok_counts names nil = true
ok_counts names (tree n kids after) =
    ok_count n.count (inside n.name names) kids && (ok_counts (inside n.name names) kids && ok_counts names after)

unfoldable pub ok_tree_counts : List (List ℕ) → Tree → Bool
ok_tree_counts names t = ok_count t.root.count names t.subtrees && ok_counts names t.subtrees

-- ---- resolve undo

-- the octal text of a mode; "0" for a missing stage
unfoldable pub mode_text : ℕ → List ℕ
mode_text m =
    cond (eqb m 0x81a4)
    (49 ∷ 48 ∷ 48 ∷ 54 ∷ 52 ∷ 52 ∷ [])
    (cond (eqb m 0x81ed)
    (49 ∷ 48 ∷ 48 ∷ 55 ∷ 53 ∷ 53 ∷ [])
    (cond (eqb m 0xa000) (49 ∷ 50 ∷ 48 ∷ 48 ∷ 48 ∷ 48 ∷ []) (cond (eqb m 0xe000) (49 ∷ 54 ∷ 48 ∷ 48 ∷ 48 ∷ 48 ∷ []) (48 ∷ []))))

-- the object name's bytes, where the stage is there
abbrev pub IsStage : ℕ → Stage → List ℕ → Type 0
IsStage w s a = when (eqb s.mode 0) ((s.object ≡ replicate w 0) × (a ≡ [])) ((ok_mode s.mode ≡ true) × (length s.object ≡ w) × (a ≡ s.object))

unfoldable pub some_stage : Undo → Bool
some_stage u = not (eqb u.first.mode 0) || (not (eqb u.second.mode 0) || not (eqb u.third.mode 0))

-- the bytes of one record, after one of the path before
pub record IsUndo (w : ℕ) (previous : List ℕ) (u : Undo) (a : List ℕ) : Type 0 where
  pub path : ok_name u.path ≡ true
  pub order : is_below (compare previous u.path) ≡ true
  pub stages : some_stage u ≡ true
  pub first_bytes : List ℕ
  pub second_bytes : List ℕ
  pub third_bytes : List ℕ
  pub first : IsStage w u.first first_bytes
  pub second : IsStage w u.second second_bytes
  pub third : IsStage w u.third third_bytes
  pub bytes :
      a ≡ u.path ++ (0 ∷ (mode_text u.first.mode ++ (0 ∷ (mode_text u.second.mode ++ (0 ∷ (mode_text u.third.mode
      ++ (0 ∷ (first_bytes ++ (second_bytes ++ third_bytes)))))))))

pub data Undos (w : ℕ) : List ℕ → List Undo → List ℕ → Type 0 where
  undos_end : {previous : List ℕ} → Undos w previous [] []
  undos_more : {previous : List ℕ} {u : Undo} {us : List Undo} {a b : List ℕ} → IsUndo w previous u a → Undos w u.path us b → Undos w previous (u ∷ us) (a ++ b)

-- ---- extensions

pub data Extension : Type 0 where
  cache_tree : Tree → Extension
  resolve_undo : List Undo → Extension
  other : List ℕ → List ℕ → Extension

abbrev pub TREE : List ℕ
TREE = 84 ∷ 82 ∷ 69 ∷ 69 ∷ []

abbrev pub REUC : List ℕ
REUC = 82 ∷ 69 ∷ 85 ∷ 67 ∷ []

-- an extension that may be passed over begins with 'A' to 'Z'
unfoldable pub optional : List ℕ → Bool
optional s = leb 65 (get_or s 0 0) && leb (get_or s 0 0) 90

-- the signature s and the data d of an extension; names are those of the entries
abbrev pub Says : ℕ → List (List ℕ) → Extension → List ℕ → List ℕ → Type 0
Says w names (cache_tree t) s d = (s ≡ TREE) × IsTree w t d × (ok_tree_counts names t ≡ true)
Says w names (resolve_undo us) s d = (s ≡ REUC) × Undos w [] us d
Says w names (other s₁ d₁) s d =
    (s ≡ s₁) × (d ≡ d₁) × (length s ≡ 4) × (optional s ≡ true) × (eq_list s TREE ≡ false) × (eq_list s REUC ≡ false)

-- its bytes: signature, 32-bit size, data
pub record IsExtension (w : ℕ) (names : List (List ℕ)) (x : Extension) (a : List ℕ) : Type 0 where
  pub signature : List ℕ
  pub content : List ℕ
  pub says : Says w names x signature content
  pub fits : length content < 4294967296
  pub bytes : a ≡ signature ++ (put32 (length content) ++ content)

pub data Extensions (w : ℕ) (names : List (List ℕ)) : List Extension → List ℕ → Type 0 where
  extensions_end : Extensions w names [] []
  extensions_more :
      {x : Extension} {xs : List Extension} {a b : List ℕ} → IsExtension w names x a → Extensions w names xs b → Extensions w names (x ∷ xs) (a ++ b)

-- the cache trees and the resolve-undo lists among the extensions
unfoldable pub trees : List Extension → List Tree
trees [] = []
trees (cache_tree t ∷ xs) = t ∷ trees xs
trees (resolve_undo us ∷ xs) = trees xs
trees (other s d ∷ xs) = trees xs

unfoldable pub undos : List Extension → List (List Undo)
undos [] = []
undos (cache_tree t ∷ xs) = undos xs
undos (resolve_undo us ∷ xs) = us ∷ undos xs
undos (other s d ∷ xs) = undos xs

-- one, where the records have it
abbrev pub only : {A : Type 0} → Option A → List A
only none = []
only (some a) = a ∷ []

-- ---- the file

abbrev pub DIRC : List ℕ
DIRC = 68 ∷ 73 ∷ 82 ∷ 67 ∷ []

unfoldable pub names : List Entry → List (List ℕ)
names es = map (λ e. e.name) es

-- the bytes b before the checksum
pub record Body (w : ℕ) (r : Records) (b : List ℕ) : Type 0 where
  pub version : ℕ
  pub two_to_four : (2 ≤ version) × (version ≤ 4)
  pub few : length r.entries < 4294967296
  pub entry_bytes : List ℕ
  pub extension_bytes : List ℕ
  pub extensions : List Extension
  pub entries_are : Entries w version start r.entries entry_bytes
  pub extensions_are : Extensions w (names r.entries) extensions extension_bytes
  pub tree_is : trees extensions ≡ only r.cache_tree
  pub undo_is : undos extensions ≡ only r.resolve_undo
  pub bytes : b ≡ DIRC ++ (put32 version ++ (put32 (length r.entries) ++ (entry_bytes ++ extension_bytes)))

-- the records r spell the file f: at most 16,777,216 bytes, ended by a checksum, which is the hash of all before or was left out: w zeros
pub record Spells (w : ℕ) (hash : List ℕ → List ℕ) (r : Records) (f : List ℕ) : Type 0 where
  pub body : List ℕ
  pub body_is : Body w r body
  pub checksum : List ℕ
  pub right_or_left_out : (checksum ≡ hash body) ⊎ (checksum ≡ replicate w 0)
  pub file_is : f ≡ body ++ checksum
  pub short : length f ≤ 16777216
