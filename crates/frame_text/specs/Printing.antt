-- The text that a tree is printed as: one frame a line, two spaces for each open block (own choice).
use Rattle.std.specs.Prelude.{ℕ, zero, suc, ◌+◌, ◌*◌, Bool, true, false, ◌&&◌, List, [], ◌++◌, codes, decimal}
use Rattle.frame_tree.specs.Tree.{Tree, send, retry, gap, repeat, choose, until, timed, nothing, chained, call, define}
use Rattle.frame_text.specs.PrintedMessages.{send_text}
use Rattle.frame_text.specs.PrintedConditions.{condition_text}

abbrev pub indent : ℕ → List ℕ
indent zero = []
indent (suc depth) = codes "  " ++ indent depth

-- whether a tree has no frame but empty sequences
abbrev pub is_empty : Tree → Bool
is_empty nothing = true
is_empty (chained a b) = is_empty a && is_empty b
is_empty _ = false

-- a block with these lines in it
abbrev pub block_text : ℕ → List ℕ → List ℕ
block_text depth inner = codes "{\n" ++ (inner ++ (indent depth ++ codes "}"))

-- what stands behind the first block of an if; an empty else is not printed
abbrev pub else_text : ℕ → Bool → List ℕ → List ℕ
else_text depth true inner = []
else_text depth false inner = codes " else " ++ block_text depth inner

-- the lines of a tree inside so many blocks; the members of a sequence in a sequence stand in line; a period is printed
-- in µs
unfoldable pub lines : ℕ → Tree → List ℕ
lines depth (send line message) = indent depth ++ (send_text line message ++ codes "\n")
lines depth (retry count line message) =
    indent depth ++ (codes "retry " ++ (decimal count ++ (codes " " ++ (send_text line message ++ codes "\n"))))
lines depth (gap ticks) = indent depth ++ (codes "gap " ++ (decimal ticks ++ codes "\n"))
lines depth (repeat count body) =
    indent depth
    ++ (codes "repeat " ++ (decimal count ++ (codes " " ++ (block_text depth (lines (depth + 1) body) ++ codes "\n"))))
lines depth (choose c a b) =
    indent depth
    ++ (codes "if "
    ++ (condition_text c
    ++ (codes " "
    ++ (block_text depth (lines (depth + 1) a)
    ++ (else_text depth (is_empty b) (lines (depth + 1) b) ++ codes "\n")))))
lines depth (until c count body) =
    indent depth
    ++ (codes "until "
    ++ (condition_text c
    ++ (codes " at most "
    ++ (decimal count ++ (codes " " ++ (block_text depth (lines (depth + 1) body) ++ codes "\n"))))))
lines depth (timed hundreds body) =
    indent depth
    ++ (codes "frame "
    ++ (decimal (hundreds * 100) ++ (codes " " ++ (block_text depth (lines (depth + 1) body) ++ codes "\n"))))
lines depth (call name) = indent depth ++ (codes "call " ++ (name ++ codes "\n"))
lines depth (define name body rest) =
    (indent depth
    ++ (codes "define " ++ (name ++ (codes " " ++ (block_text depth (lines (depth + 1) body) ++ codes "\n")))))
    ++ lines depth rest
lines depth nothing = []
lines depth (chained a b) = lines depth a ++ lines depth b

-- the text of a tree
abbrev pub printed : Tree → List ℕ
printed t = lines 0 t
