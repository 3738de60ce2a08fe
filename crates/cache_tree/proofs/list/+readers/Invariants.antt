-- The two readers end: the measure is the number of bytes that remain, twice, and one more for a list: a list asks for a node at its own place or
-- later, and a node asks for a list after its own bytes. The list's loop keeps the answer for the whole list but for its own names, and whether
-- these rise so far.
use mathlib.Core.Bool.{true, false}
use mathlib.Core.Path.{◌≡◌}
use Prim.Native.Nat.{◌+◌, ◌*◌, ◌-◌, ◌≤◌}
use lib.ListN.{length, drop}
use Rattle.format.specs.Reader.{read_forest}
use Rattle.cache_tree.specs.Answers.{distinct_below, tested, list_at}
use Rattle.cache_tree.proofs.Lists.{plus}
use Rattle.cache_tree.proofs.Siblings.{Rises}
use Rattle.cache_tree.proofs.list.+readers.Given as goal

abbrev pub decreases-read_list : goal.decreases-read_list
decreases-read_list l = 2 * (length l.d.now - l.at) + 1

abbrev pub decreases-read_subtree : goal.decreases-read_subtree
decreases-read_subtree l = 2 * (length l.d.now - l.at)

abbrev pub invariant-read_list-loop : goal.invariant-read_list-loop
invariant-read_list-loop l =
    (l.at + l.nodes ≤ l.place)
    × (l.place ≤ length l.d)
    × (l.previous ≤ l.place)
    × (length l.t ≡ 3126)
    × (list_at l.at (tested distinct_below (read_forest l.w 0 l.levels l.k (drop l.at l.d)))
    ≡ plus l.nodes (list_at l.place (tested distinct_below (read_forest l.w 0 l.levels (l.k - l.counter) (drop l.place l.d)))))
    × Rises l.w false l.d l.at l.k l.previous l.place (l.k - l.counter) l.rises.by_slash
    × Rises l.w true l.d l.at l.k l.previous l.place (l.k - l.counter) l.rises.by_length
