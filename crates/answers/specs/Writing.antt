-- What rewrite, put and remove answer, from the file's reading, the workspace and the output's length; and the output afterwards.
use Rattle.std.specs.Prelude.{List, ◌++◌, ℕ, drop, Result, Ok}
use Rattle.format.specs.Records.{Entry, Key, Records}
use Rattle.format.specs.Reading.{Read, bad, good}
use Rattle.format.specs.Reader.{Contents}
use Rattle.format.specs.Refusals.{Numbered, denied}
use Rattle.format.specs.Requests.{rewrite_request, put_request, remove_request}
use Rattle.answers.specs.Answers.{in_room}

-- what is asked of the records that were read
abbrev pub requested : Read Contents → (Records → Read (List ℕ)) → Read (List ℕ)
requested (bad n p) ask = bad n p
requested (good c m) ask = ask c.records

-- the answers of rewrite, put and remove: a refusal, or the bytes of the file
unfoldable pub rewrite_answer : ℕ → (List ℕ → List ℕ) → List ℕ → ℕ → ℕ → Read Contents → Read (List ℕ)
rewrite_answer w hash work asked room x = requested (in_room work x) (rewrite_request w hash asked room)

unfoldable pub put_answer : ℕ → (List ℕ → List ℕ) → List ℕ → ℕ → Entry → ℕ → Read Contents → Read (List ℕ)
put_answer w hash work asked e room x = requested (in_room work x) (put_request w hash asked e room)

unfoldable pub remove_answer : ℕ → (List ℕ → List ℕ) → List ℕ → ℕ → Key → ℕ → Read Contents → Read (List ℕ)
remove_answer w hash work asked k room x = requested (in_room work x) (remove_request w hash asked k room)

-- as the code says it: how many bytes were written
abbrev pub written_of : Read (List ℕ) → Result ℕ Numbered
written_of (bad n p) = denied n p
written_of (good bytes n) = Ok n

-- a refusal leaves the output as it was; success fills its first n bytes
abbrev pub output_after : Read (List ℕ) → List ℕ → List ℕ
output_after (bad n p) out = out
output_after (good bytes n) out = bytes ++ drop n out
