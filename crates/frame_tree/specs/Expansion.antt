-- The expansion of a tree (own choice): each call replaced by the body of its definition, and no definition.
use Rattle.std.specs.Prelude.{[], ◌∷◌}
use Rattle.frame_tree.specs.Tree.{Tree, send, retry, gap, repeat, choose, until, timed, nothing, chained, call, define}
use Rattle.frame_tree.specs.Names.{Scope, meant_by}

-- the expansion where these trees stand for the names in scope
abbrev pub expanded : Scope Tree → Tree → Tree
expanded ds (send l m) = send l m
expanded ds (retry n l m) = retry n l m
expanded ds (gap t) = gap t
expanded ds (repeat n b) = repeat n (expanded ds b)
expanded ds (choose c a b) = choose c (expanded ds a) (expanded ds b)
expanded ds (until c n b) = until c n (expanded ds b)
expanded ds (timed h b) = timed h (expanded ds b)
expanded ds nothing = nothing
expanded ds (chained a b) = chained (expanded ds a) (expanded ds b)
expanded ds (call n) = meant_by nothing ds n
expanded ds (define n b r) = expanded ((n, expanded ds b) ∷ ds) r

abbrev pub expansion : Tree → Tree
expansion t = expanded [] t
