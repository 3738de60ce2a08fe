-- What a pass over the nodes of a tree says.
use Rattle.std.specs.Prelude.{Bool, true, cond, ◌&&◌, ℕ, Option, Some, None}
use Rattle.format.specs.Records.{Forest}
use Rattle.format.specs.Layout.{all_valid}
use Rattle.tree_counts.specs.Counts.{valid_below, positive}

-- of the nodes below a node, valid or not: how many have a count of at least 1, none where one below a valid node is invalid
unfoldable pub survey_of : Bool → Forest → Option ℕ
survey_of v f = cond (cond v (all_valid f) true && valid_below f) (Some (positive f)) None
