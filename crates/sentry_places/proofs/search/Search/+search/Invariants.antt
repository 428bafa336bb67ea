use Rattle.std.proofs.Common.{◌+◌, ◌*◌}
use Rattle.sentry_places.proofs.search.Search.+search.Given as goal

-- a value, or its bracket, its items or members together, and each of them: four steps for each depth
abbrev pub decreases-mend : goal.decreases-mend
decreases-mend g l = 4 * l.depth

abbrev pub decreases-mend_item : goal.decreases-mend_item
decreases-mend_item g l = 4 * l.depth + 1

abbrev pub decreases-mend_member : goal.decreases-mend_member
decreases-mend_member g l = 4 * l.depth + 1

abbrev pub decreases-mend_parts : goal.decreases-mend_parts
decreases-mend_parts g l = 4 * l.depth + 2

abbrev pub decreases-mend_items : goal.decreases-mend_items
decreases-mend_items g l = 4 * l.depth + 3

abbrev pub decreases-mend_members : goal.decreases-mend_members
decreases-mend_members g l = 4 * l.depth + 3
