-- The reader: from bytes to records, or to the first refusal that applies. p is the place of the entry or of the extension that is read,
-- s the bytes from there to the end of the body or of the extension's data, w the width of an object name and of the checksum.
use Rattle.std.specs.Prelude.{List, [], ◌∷◌, ◌++◌, Bool, true, false, cond, not, ◌&&◌, ℕ, zero, suc, ◌+◌, ◌-◌, ◌/◌, ◌%◌, length, take, drop, get_or, replicate, eqb, leb, ltb}
use Rattle.std.proofs.Math.Option.{Option, none, some}
use Rattle.format.specs.Bytes.{be16, be32, be32s, two, eq_list, before, zeros, decimal, value}
use Rattle.format.specs.Names.{ok_name, length_field, compare, is_below, rises}
use Rattle.format.specs.Records.{Entry, Key, key_of, start, Count, valid, invalid, Node, Forest, nil, tree, Tree, Stage, Undo, Records}
use Rattle.format.specs.Layout.{ok_mode, fixed_length, entry_length, ok_node_name, distinct, ok_tree_counts, mode_text, some_stage, Extension, cache_tree, resolve_undo, other, TREE, REUC, DIRC, optional, trees, undos, names}
use Rattle.format.specs.Checksum.{Checksum, checksum_in, is_sound}
use Rattle.format.specs.Reading.{Read, bad, good, need, shift, bind}

-- ---- one entry

-- the flags: assume-valid, extended, stage, length field
unfoldable pub is_set : ℕ → ℕ → Bool
is_set b x = eqb (x / b % 2) 1

-- the extended word has its top bit and its low 13 bits clear
unfoldable pub ok_word : ℕ → Bool
ok_word x = ltb x 32768 && eqb (x % 8192) 0

-- the name in versions 2 and 3 of an entry with f bytes before it: field bytes, or up to a NUL where the field is 4095; then NULs
unfoldable pub plain_length : ℕ → List ℕ → ℕ
plain_length field s = cond (ltb field 4095) field (before 0 s)

unfoldable pub read_plain : ℕ → ℕ → ℕ → List ℕ → Read (List ℕ)
read_plain f p field s =
    need (ltb (plain_length field s) (length s)) 6 p
    (need (ok_name (take (plain_length field s) s) && eqb field (length_field (plain_length field s))) 9 p
    (need (leb (entry_length f (plain_length field s)) (f + length s)) 6 p
    (need (zeros (drop (plain_length field s) (take (entry_length f (plain_length field s) - f) s))) 10 p
    (good (take (plain_length field s) s) (entry_length f (plain_length field s) - f)))))

-- the number N, at most the previous name's length
unfoldable pub read_n : ℕ → ℕ → List ℕ → Read ℕ
read_n p most s =
    need (leb 1 (length s)) 6 p
    (cond (ltb (get_or s 0 0) 128)
    (need (leb (get_or s 0 0) most) 10 p (good (get_or s 0 0) 1))
    (need (leb 2 (length s)) 6 p
    (need (ltb (get_or s 1 0) 128 && leb (two (get_or s 0 0) (get_or s 1 0)) most) 10 p (good (two (get_or s 0 0) (get_or s 1 0)) 2))))

-- the name in version 4: the previous name less its last n bytes, then what is before the first NUL
unfoldable pub joined : List ℕ → ℕ → List ℕ → List ℕ
joined previous n s = take (length previous - n) previous ++ take (before 0 s) s

unfoldable pub read_suffix : ℕ → List ℕ → ℕ → ℕ → List ℕ → Read (List ℕ)
read_suffix p previous field n s =
    need (ltb (before 0 s) (length s)) 6 p
    (need (ok_name (joined previous n s) && eqb field (length_field (length (joined previous n s)))) 9 p
    (good (joined previous n s) (before 0 s + 1)))

unfoldable pub read_packed : ℕ → List ℕ → ℕ → List ℕ → Read (List ℕ)
read_packed p previous field s = bind (read_n p (length previous) s) (λ n m. read_suffix p previous field n (drop m s))

unfoldable pub read_name : ℕ → ℕ → ℕ → List ℕ → ℕ → List ℕ → Read (List ℕ)
read_name v f p previous field s = cond (eqb v 4) (read_packed p previous field s) (read_plain f p field s)

-- the entry whose bytes are s, whose flags are x, whose extended word is y, or 0 without one, and whose name is name
unfoldable pub entry_of : ℕ → List ℕ → ℕ → ℕ → List ℕ → Entry
entry_of w s x y name = record {
  numbers = be32s s 0 10;
  object = take w (drop 40 s);
  assume_valid = is_set 32768 x;
  stage = x / 4096 % 4;
  skip_worktree = is_set 16384 y;
  intent_to_add = is_set 8192 y;
  name = name;
}

-- the rest of an entry after the fixed part and the extended word, f bytes in all
unfoldable pub read_tail : ℕ → ℕ → Key → ℕ → ℕ → ℕ → ℕ → List ℕ → Read Entry
read_tail w v k p f x y s =
    bind (read_name v f p k.name (x % 4096) (drop f s)) λ name m.
    need (rises (compare k.name name) k.stage (x / 4096 % 4)) 11 p (good (entry_of w s x y name) 0)

unfoldable pub read_fixed : ℕ → ℕ → Key → ℕ → ℕ → List ℕ → Read Entry
read_fixed w v k p x s =
    need (not (is_set 16384 x && eqb v 2)) 8 p
    (cond (is_set 16384 x)
    (need (leb (fixed_length w true) (length s)) 6 p
    (need (ok_word (be16 s (42 + w))) 8 p (shift (fixed_length w true) (read_tail w v k p (fixed_length w true) x (be16 s (42 + w)) s))))
    (shift (fixed_length w false) (read_tail w v k p (fixed_length w false) x 0 s)))

-- one entry of version v, after one with the key k
unfoldable pub read_entry : ℕ → ℕ → Key → ℕ → List ℕ → Read Entry
read_entry w v k p s =
    need (leb (fixed_length w false) (length s)) 6 p
    (need (ok_mode (be32 s 24)) 7 p (read_fixed w v k p (be16 s (40 + w)) s))

-- n entries, the first at the place p
unfoldable pub read_entries : ℕ → ℕ → ℕ → Key → ℕ → List ℕ → Read (List Entry)
read_entries w v zero k p s = good [] 0
read_entries w v (suc n) k p s =
    bind (read_entry w v k p s) λ e m.
    bind (read_entries w v n (key_of e) (p + m) (drop m s)) λ es o. good (e ∷ es) 0

-- ---- the cache tree; whatever is wrong with its data is 15

-- the text before the next byte b, which has to be there
unfoldable pub read_text : ℕ → ℕ → ℕ → List ℕ → Read (List ℕ)
read_text b n p s = need (ltb (before b s) (length s)) n p (good (take (before b s) s) (before b s + 1))

-- an entry count
unfoldable pub count_in : List ℕ → Option Count
count_in [] = none
count_in (d ∷ t) =
    cond (eqb d 45)
    (cond (decimal t && (leb 1 (value t) && leb (value t) 2147483648)) (some invalid) none)
    (cond (decimal (d ∷ t) && leb (value (d ∷ t)) 2147483647) (some (valid (value (d ∷ t)))) none)

unfoldable pub need_some : {A B : Type 0} → Option A → ℕ → ℕ → (A → Read B) → Read B
need_some none n p k = bad n p
need_some (some a) n p k = k a

unfoldable pub read_count : ℕ → List ℕ → Read Count
read_count p s = bind (read_text 32 15 p s) λ t m. need_some (count_in t) 15 p (λ c. good c 0)

unfoldable pub read_subtrees : ℕ → List ℕ → Read ℕ
read_subtrees p s = bind (read_text 10 15 p s) λ t m. need (decimal t && leb (value t) 2147483647) 15 p (good (value t) 0)

-- an object name where the count is valid, else zeros
unfoldable pub read_object : ℕ → ℕ → Count → List ℕ → Read (List ℕ)
read_object w p (valid n) s = need (leb w (length s)) 15 p (good (take w s) w)
read_object w p invalid s = good (replicate w 0) 0

-- a node and its number of subtrees
pub record Head : Type 0 where
  pub node : Node
  pub subtrees : ℕ

unfoldable pub read_node : ℕ → ℕ → List ℕ → Read Head
read_node w p s =
    bind (read_text 0 15 p s) λ name m.
    bind (read_count p (drop m s)) λ count n.
    bind (read_subtrees p (drop n (drop m s))) λ subtrees o.
    bind (read_object w p count (drop o (drop n (drop m s)))) λ object q.
    good (record { node = record { name = name; count = count; object = object }; subtrees = subtrees }) 0

-- k siblings, each followed by its list of subtrees, which go reads
unfoldable pub read_siblings : ℕ → ℕ → (ℕ → List ℕ → Read Forest) → ℕ → List ℕ → Read Forest
read_siblings w p go zero s = good nil 0
read_siblings w p go (suc k) s =
    bind (read_node w p s) λ h m.
    need (ok_node_name h.node.name) 15 p
    (bind (go h.subtrees (drop m s)) λ kids n.
    bind (read_siblings w p go k (drop n (drop m s))) λ after o. good (tree h.node kids after) 0)

-- k siblings with at most the given number of levels
unfoldable pub read_forest : ℕ → ℕ → ℕ → ℕ → List ℕ → Read Forest
read_forest w p zero zero s = good nil 0
read_forest w p zero (suc k) s = bad 15 p
read_forest w p (suc levels) k s = read_siblings w p (read_forest w p levels) k s

-- the root, whose name is empty, and what is below it
unfoldable pub read_nodes : ℕ → ℕ → List ℕ → Read Tree
read_nodes w p s =
    bind (read_node w p s) λ h m.
    need (eqb (length h.node.name) 0) 15 p
    (bind (read_forest w p 127 h.subtrees (drop m s)) λ kids n. good (record { root = h.node; subtrees = kids }) 0)

-- the whole data
unfoldable pub read_tree : ℕ → List (List ℕ) → ℕ → List ℕ → Read Tree
read_tree w ns p s =
    bind (read_nodes w p s) λ t m.
    need (eqb m (length s)) 15 p (need (distinct t.subtrees) 15 p (need (ok_tree_counts ns t) 16 p (good t 0)))

-- ---- resolve undo; whatever is wrong with its data is 17

unfoldable pub mode_in : List ℕ → Option ℕ
mode_in t =
    cond (eq_list t (48 ∷ []))
    (some 0)
    (cond (eq_list t (mode_text 0x81a4))
    (some 0x81a4)
    (cond (eq_list t (mode_text 0x81ed))
    (some 0x81ed)
    (cond (eq_list t (mode_text 0xa000)) (some 0xa000) (cond (eq_list t (mode_text 0xe000)) (some 0xe000) none))))

unfoldable pub read_mode : ℕ → List ℕ → Read ℕ
read_mode p s = bind (read_text 0 17 p s) λ t m. need_some (mode_in t) 17 p (λ x. good x 0)

-- the object name of a stage that is there, else zeros
unfoldable pub read_stage : ℕ → ℕ → ℕ → List ℕ → Read Stage
read_stage w p m s =
    cond (eqb m 0)
    (good (record { mode = 0; object = replicate w 0 }) 0)
    (need (leb w (length s)) 17 p (good (record { mode = m; object = take w s }) w))

unfoldable pub read_stages : ℕ → ℕ → List ℕ → ℕ → ℕ → ℕ → List ℕ → Read Undo
read_stages w p path a b c s =
    bind (read_stage w p a s) λ x m.
    bind (read_stage w p b (drop m s)) λ y n.
    bind (read_stage w p c (drop n (drop m s))) λ z o.
    need (some_stage (record { path = path; first = x; second = y; third = z })) 17 p (good (record { path = path; first = x; second = y; third = z }) 0)

-- one record, after one of the path previous
unfoldable pub read_undo : ℕ → ℕ → List ℕ → List ℕ → Read Undo
read_undo w p previous s =
    bind (read_text 0 17 p s) λ path m.
    need (ok_name path && is_below (compare previous path)) 17 p
    (bind (read_mode p (drop m s)) λ a n.
    bind (read_mode p (drop n (drop m s))) λ b o.
    bind (read_mode p (drop o (drop n (drop m s)))) λ c q. read_stages w p path a b c (drop q (drop o (drop n (drop m s)))))

-- records up to the end of the data; fuel is at least the number of bytes
unfoldable pub read_undos : ℕ → ℕ → ℕ → List ℕ → List ℕ → Read (List Undo)
read_undos w p zero previous [] = good [] 0
read_undos w p (suc fuel) previous [] = good [] 0
read_undos w p zero previous (x ∷ s) = bad 17 p
read_undos w p (suc fuel) previous (x ∷ s) =
    bind (read_undo w p previous (x ∷ s)) λ u m.
    bind (read_undos w p fuel u.path (drop m (x ∷ s))) λ us n. good (u ∷ us) 0

-- ---- extensions

-- which of the two have been read
pub record Seen : Type 0 where
  pub cache_tree : Bool
  pub resolve_undo : Bool

abbrev pub none_seen : Seen
none_seen = record { cache_tree = false; resolve_undo = false }

abbrev pub also_seen : Extension → Seen → Seen
also_seen (cache_tree t) k = record { cache_tree = true; resolve_undo = k.resolve_undo }
also_seen (resolve_undo us) k = record { cache_tree = k.cache_tree; resolve_undo = true }
also_seen (other s d) k = k

-- the data d of an extension with the signature s
unfoldable pub read_data : ℕ → List (List ℕ) → Seen → ℕ → List ℕ → List ℕ → Read Extension
read_data w ns k p s d =
    cond (eq_list s TREE)
    (need (not k.cache_tree) 14 p (bind (read_tree w ns p d) λ t m. good (cache_tree t) 0))
    (cond (eq_list s REUC)
    (need (not k.resolve_undo) 14 p (bind (read_undos w p (length d) [] d) λ us m. good (resolve_undo us) 0))
    (good (other s d) (length d)))

-- one extension; ns are the entries' names
unfoldable pub read_extension : ℕ → List (List ℕ) → Seen → ℕ → List ℕ → Read Extension
read_extension w ns k p s =
    need (leb 8 (length s)) 12 p
    (need (leb (8 + be32 s 4) (length s)) 12 p
    (need (optional s) 13 p (shift 8 (read_data w ns k p (take 4 s) (take (be32 s 4) (drop 8 s))))))

-- extensions up to the end of the body; fuel is at least the number of bytes
unfoldable pub read_extensions : ℕ → List (List ℕ) → ℕ → Seen → ℕ → List ℕ → Read (List Extension)
read_extensions w ns zero k p [] = good [] 0
read_extensions w ns (suc fuel) k p [] = good [] 0
read_extensions w ns zero k p (x ∷ s) = bad 12 p
read_extensions w ns (suc fuel) k p (x ∷ s) =
    bind (read_extension w ns k p (x ∷ s)) λ e m.
    bind (read_extensions w ns fuel (also_seen e k) (p + m) (drop m (x ∷ s))) λ es n. good (e ∷ es) 0

-- ---- the file

-- the first of a list, where there is one
abbrev pub first : {A : Type 0} → List A → Option A
first [] = none
first (a ∷ rest) = some a

-- what a whole file says: its version, what its checksum is, the byte where its entries end, its records
pub record Contents : Type 0 where
  pub version : ℕ
  pub checksum : Checksum
  pub end : ℕ
  pub records : Records

-- the body b of version v, of a file whose checksum is known
unfoldable pub read_body : ℕ → ℕ → Checksum → List ℕ → Read Contents
read_body w v sum b =
    shift 12
    (bind (read_entries w v (be32 b 8) start 12 (drop 12 b)) λ es m.
    bind (read_extensions w (names es) (length (drop m (drop 12 b))) none_seen (12 + m) (drop m (drop 12 b))) λ xs n.
    good
    (record {
      version = v;
      checksum = sum;
      end = 12 + m;
      records = record { entries = es; cache_tree = first (trees xs); resolve_undo = first (undos xs) };
    })
    0)

-- the whole file f
unfoldable pub read_file : ℕ → (List ℕ → List ℕ) → List ℕ → Read Contents
read_file w hash f =
    need (leb (12 + w) (length f)) 1 0
    (need (leb (length f) 16777216) 2 0
    (need (eq_list (take 4 f) DIRC) 3 0
    (need (leb 2 (be32 f 4) && leb (be32 f 4) 4) 4 0
    (need (is_sound (checksum_in w hash f)) 5 (length f - w) (read_body w (be32 f 4) (checksum_in w hash f) (take (length f - w) f))))))
