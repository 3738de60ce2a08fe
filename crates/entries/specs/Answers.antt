-- What is before the name of an entry, and how answers of code belong to answers of readers. w is the width of an object name.
use Rattle.std.specs.Prelude.{List, Result, Ok, Err, true, false, cond, not, ◌&&◌, ◌≡◌, ℕ, ◌+◌, ◌≤◌, length, drop, eqb, leb}
use Rattle.format.specs.Bytes.{be16, be32}
use Rattle.format.specs.Layout.{ok_mode, fixed_length}
use Rattle.format.specs.Reading.{Read, bad, good, need}
use Rattle.format.specs.declared.Refusal.{Refusal}
use Rattle.format.specs.Reader.{is_set, ok_word, read_plain}
use Rattle.entries.specs.declared.Head.{Head}
use Rattle.entries.specs.declared.Text.{Text}
use Rattle.entries.specs.declared.Number.{Number}

-- what read_entry reads before the name
unfoldable pub read_head : ℕ → ℕ → ℕ → List ℕ → Read Head
read_head w v p s =
    need (leb (fixed_length w false) (length s)) 6 p
    (need (ok_mode (be32 s 24)) 7 p
    (need (not (is_set 16384 (be16 s (40 + w)) && eqb v 2)) 8 p
    (cond (is_set 16384 (be16 s (40 + w)))
    (need (leb (fixed_length w true) (length s)) 6 p
    (need (ok_word (be16 s (42 + w))) 8 p
    (good (record { length = fixed_length w true; flags = be16 s (40 + w); word = be16 s (42 + w) }) (fixed_length w true))))
    (good (record { length = fixed_length w false; flags = be16 s (40 + w); word = 0 }) (fixed_length w false)))))

-- without its place, which the code's answer leaves out
unfoldable pub fixed_of : Read Head → Result Head ℕ
fixed_of (bad n p) = Err n
fixed_of (good h m) = Ok h

-- the length, 0 of a refusal
abbrev pub head_length : Result Head Refusal → ℕ
head_length (Ok h) = h.length
head_length (Err e) = 0

-- how long it is, at the start of the bytes s, whose flags it has
pub record Size (w : ℕ) (s : List ℕ) (h : Head) : Type 0 where
  pub flags : h.flags ≡ be16 s (40 + w)
  pub is : h.length ≡ fixed_length w (is_set 16384 h.flags)
  pub least : 40 + w + 2 ≤ h.length
  pub most : h.length ≤ 40 + w + 4

-- at a place of the body b, where read_head reads it, the same without its tests
pub record HeadPassed (w : ℕ) (b : List ℕ) (at : ℕ) (r : Result Head Refusal) : Type 0 where
  pub same : (v p : ℕ) (h : Head) → fixed_of (read_head w v p (drop at b)) ≡ Ok h → r ≡ Ok h
  pub sized : (h : Head) → r ≡ Ok h → Size w (drop at b) h
  pub there : at + head_length r ≤ length b

-- a name by its length, with the bytes taken
unfoldable pub text_of : Read (List ℕ) → Result Text ℕ
text_of (bad n p) = Err n
text_of (good name m) = Ok (record { length = length name; taken = m })

abbrev pub text_length : Result Text Refusal → ℕ
text_length (Ok t) = t.length
text_length (Err e) = 0

abbrev pub text_taken : Result Text Refusal → ℕ
text_taken (Ok t) = t.taken
text_taken (Err e) = 0

-- a name that was read has n bytes
abbrev pub HasLength : ℕ → Result Text Refusal → Type 0
HasLength n (Ok t) = t.length ≡ n
HasLength n (Err e) = Unit {0}

-- at a place of the body b, where read_plain reads a name, the same without its tests
pub record NamePassed (b : List ℕ) (at f field : ℕ) (r : Result Text Refusal) : Type 0 where
  pub same : (p : ℕ) (t : Text) → text_of (read_plain f p field (drop at b)) ≡ Ok t → r ≡ Ok t
  pub short : text_length r ≤ 8192
  pub fits : text_length r ≤ text_taken r
  pub there : at + text_taken r ≤ length b

-- the number N
unfoldable pub n_of : Read ℕ → Result Number ℕ
n_of (bad n p) = Err n
n_of (good n m) = Ok (record { value = n; taken = m })

abbrev pub number_value : Result Number Refusal → ℕ
number_value (Ok n) = n.value
number_value (Err e) = 0

abbrev pub number_taken : Result Number Refusal → ℕ
number_taken (Ok n) = n.taken
number_taken (Err e) = 0
