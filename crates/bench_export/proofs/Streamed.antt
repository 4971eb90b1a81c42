-- Rows of packets as they come from a reader.
use Rattle.std.proofs.Common.{◌≡◌, ◌∙◌, Bool, ◌||◌, ℕ, ◌+◌, List, [], ◌∷◌, ◌++◌, length, reverse, Option, refl, sym, ap, subst, append-nil, append_assoc, arith}
use Rattle.std.proofs.Math.Bool.{or-false, or_assoc}
use Rattle.std.specs.Io.KnownBytes.{Appends}
use Rattle.ch11_layout.specs.Stamps.{kind_of}
use Rattle.ch11_reader.specs.declared.packet.Packet.{Packet}
use Rattle.ch11_reader.specs.Recording.{Found}
use Rattle.ch11_reader.specs.Contents.{total_in}
use Rattle.ch11_stream.specs.Reading.{IsStep, Reading, last_found}
use Rattle.ch11_stream.proofs.Folding.{one_behind, total_reverse}
use Rattle.bench_clock.specs.declared.clock.Mark.{Mark}
use Rattle.bench_dump.proofs.Steps.{appends_both}
use Rattle.bench_select.specs.declared.selection.Selection.{Selection}
use Rattle.bench_export.specs.declared.changes.Change.{Change}
use Rattle.bench_export.specs.declared.table.Table.{Table}
use Rattle.bench_export.specs.Changes.{changes_among, changes_behind, changes_in}
use Rattle.bench_export.specs.Choosing.{selects_among, selects_any, selects_behind}
use Rattle.bench_export.specs.Tables.{packets_text, rows_text}

-- what each packet adds behind so many messages, and what one packet more does
parts_behind : {A : Type 0} (one : ℕ → Found → List A) (all : ℕ → List Found → List A) → ((n : ℕ) → all n [] ≡ []) → ((n : ℕ) (p : Found) (ps : List Found) → all n (p ∷ ps) ≡ one n p ++ all (n + length p.messages) ps)
    → (n : ℕ) (ps : List Found) (q : Found) → all n (ps ++ q ∷ []) ≡ all n ps ++ one (n + total_in ps) q
parts_behind {A = A} one all none step n [] q =
    let same : n + 0 ≡ n = omega arith in
    step n q [] ∙ ap (λ (l : List A). one n q ++ l) (none (n + length q.messages)) ∙ append-nil (one n q)
    ∙ ap (λ (k : ℕ). one k q) (sym same) ∙ ap (λ (l : List A). l ++ one (n + 0) q) (sym (none n))
parts_behind {A = A} one all none step n (p ∷ ps) q =
    let total : (n + length p.messages) + total_in ps ≡ n + total_in (p ∷ ps) = omega arith in
    step n p (ps ++ q ∷ [])
    ∙ ap (λ (l : List A). one n p ++ l) (parts_behind one all none step (n + length p.messages) ps q ∙ ap (λ (k : ℕ). all (n + length p.messages) ps ++ one k q) total)
    ∙ sym (append_assoc (one n p) (all (n + length p.messages) ps) (one (n + total_in (p ∷ ps)) q))
    ∙ ap (λ (l : List A). l ++ one (n + total_in (p ∷ ps)) q) (sym (step n p ps))

rows_behind : (k : Table) (clock : List Mark) (ps : List Found) (q : Found) → packets_text k clock 0 (ps ++ q ∷ []) ≡ packets_text k clock 0 ps ++ rows_text k clock (kind_of q.header) (0 + total_in ps) q.header.channel q.messages
rows_behind k clock ps q = parts_behind (λ n p. rows_text k clock (kind_of p.header) n p.header.channel p.messages) (packets_text k clock) (λ n. refl) (λ n p ps. refl) 0 ps q

changes_one_behind : (s : Selection) (ps : List Found) (q : Found) → changes_in s (ps ++ q ∷ []) ≡ changes_in s ps ++ changes_among s (kind_of q.header) (0 + total_in ps) q.header.channel q.messages
changes_one_behind s ps q = parts_behind (λ n p. changes_among s (kind_of p.header) n p.header.channel p.messages) (changes_behind s) (λ n. refl) (λ n p ps. refl) 0 ps q

-- whether a message of it is selected
selects_one_behind : (s : Selection) (before : ℕ) (ps : List Found) (q : Found) → selects_behind s before (ps ++ q ∷ []) ≡ (selects_behind s before ps || selects_among s (kind_of q.header) (before + total_in ps) q.header.channel q.messages)
selects_one_behind s before [] q =
    let none : before + 0 ≡ before = omega arith in
    or-false (selects_among s (kind_of q.header) before q.header.channel q.messages) ∙ ap (λ (n : ℕ). selects_among s (kind_of q.header) n q.header.channel q.messages) (sym none)
selects_one_behind s before (p ∷ ps) q =
    let total : (before + length p.messages) + total_in ps ≡ before + total_in (p ∷ ps) = omega arith in
    ap (λ (b : Bool). selects_among s (kind_of p.header) before p.header.channel p.messages || b)
    (selects_one_behind s (before + length p.messages) ps q ∙ ap (λ (n : ℕ). selects_behind s (before + length p.messages) ps || selects_among s (kind_of q.header) n q.header.channel q.messages) total)
    ∙ sym (or_assoc (selects_among s (kind_of p.header) before p.header.channel p.messages) (selects_behind s (before + length p.messages) ps) (selects_among s (kind_of q.header) (before + total_in (p ∷ ps)) q.header.channel q.messages))

-- the packet that was read stands behind all messages so far
behind : (before now : Reading) (p : Packet) → IsStep before now p → p.before ≡ 0 + total_in (reverse before.earlier)
behind before now p s = omega (arith, ap (λ (x : Packet). x.before) s.listed, total_reverse before.earlier)

pub rows_on : (k : Table) (clock : List Mark) (got mid gets : Option (List ℕ)) (before now : Reading) (p : Packet) → IsStep before now p → Appends got mid (packets_text k clock 0 (reverse before.earlier))
    → Appends mid gets (rows_text k clock (kind_of p.header) p.before p.header.channel now.given) → Appends got gets (packets_text k clock 0 (reverse now.earlier))
rows_on k clock got mid gets before now p s so_far one = rw (s.entered, one_behind (last_found now p) before.earlier)
    (subst (Appends got gets) (sym (rows_behind k clock (reverse before.earlier) (last_found now p)))
    (appends_both got mid gets (packets_text k clock 0 (reverse before.earlier)) (rows_text k clock (kind_of p.header) (0 + total_in (reverse before.earlier)) p.header.channel now.given) so_far (rw (behind before now p s) at one)))

pub selects_on : (s : Selection) (selected any : Bool) (before now : Reading) (p : Packet) → IsStep before now p → selected ≡ selects_any s (reverse before.earlier)
    → any ≡ (selected || selects_among s (kind_of p.header) p.before p.header.channel now.given) → any ≡ selects_any s (reverse now.earlier)
selects_on s selected any before now p step so_far is = rw (is, step.entered, one_behind (last_found now p) before.earlier, so_far, behind before now p step)
    (sym (selects_one_behind s 0 (reverse before.earlier) (last_found now p)))

pub changes_step : (s : Selection) (before now : Reading) (p : Packet) → IsStep before now p
    → changes_in s (reverse before.earlier) ++ changes_among s (kind_of p.header) p.before p.header.channel now.given ≡ changes_in s (reverse now.earlier)
changes_step s before now p step = rw (step.entered, one_behind (last_found now p) before.earlier)
    (
    ap (λ (n : ℕ). changes_in s (reverse before.earlier) ++ changes_among s (kind_of p.header) n p.header.channel now.given) (behind before now p step)
    ∙ sym (changes_one_behind s (reverse before.earlier) (last_found now p))
    )
