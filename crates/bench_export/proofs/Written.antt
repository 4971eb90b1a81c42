-- Rows that were written, one after the other.
use Rattle.std.proofs.Common.{◌≡◌, ℕ, ◌+◌, Bool, false, cond, List, [], ◌∷◌, ◌++◌, length, drop, Option, None, Some, refl, sym, ap, ◌∙◌, subst, append_assoc, arith}
use Rattle.std.specs.Io.KnownBytes.{Appends, Keeps, append_known}
use Rattle.std.proofs.lemmas.List.{append-nil}
use Rattle.ch11_f1.specs.BodyReading.{Message}
use Rattle.ch11_layout.specs.Stamps.{Recorded, recorded}
use Rattle.ch11_layout.specs.declared.stamps.StampKind.{StampKind}
use Rattle.bench_clock.specs.declared.clock.Mark.{Mark}
use Rattle.bench_select.specs.Selecting.{selects}
use Rattle.csv.specs.Writing.{default_writer, row_text}
use Rattle.bench_dump.proofs.Packets.{kept}
use Rattle.bench_dump.proofs.Steps.{appends_both, appends_nothing}
use Rattle.bench_export.specs.declared.table.Table.{Table}
use Rattle.bench_export.specs.Tables.{columns_of, row_if, rows_text}

-- a message that is not selected has no row
pub no_row : (k : Table) (clock : List Mark) (n channel : ℕ) (m : Recorded) → selects k.selection n channel m ≡ false → row_if k clock n channel m ≡ []
unfolding row_if
no_row k clock n channel m other = ap (λ (b : Bool). cond b (row_text default_writer (columns_of k clock n channel m)) []) other

-- the rows of the messages so far were written
pub record IsGoing (k : Table) (clock : List Mark) (kind : StampKind) (got gets : Option (List ℕ)) (before number channel : ℕ) (all rest : List Message) : Type 0 where
  pub more : List ℕ
  pub written : Appends got gets more
  pub counted : number + length rest ≡ before + length all
  pub rows : more ++ rows_text k clock kind number channel rest ≡ rows_text k clock kind before channel all

pub begins : (k : Table) (clock : List Mark) (kind : StampKind) (got : Option (List ℕ)) (before channel : ℕ) (all : List Message) → IsGoing k clock kind got got before before channel all all
begins k clock kind got before channel all = record { more = []; written = appends_nothing got; counted = refl; rows = refl }

pub goes_on : (k : Table) (clock : List Mark) (kind : StampKind) (got mid gets : Option (List ℕ)) (before number channel : ℕ) (all rest others : List Message) (m : Message) → IsGoing k clock kind got mid before number channel all rest → rest ≡ m ∷ others
    → Appends mid gets (row_if k clock (number + 1) channel (recorded kind m)) → IsGoing k clock kind got gets before (number + 1) channel all others
goes_on k clock kind got mid gets before number channel all rest others m g is one = record {
  more = g.more ++ row_if k clock (number + 1) channel (recorded kind m);
  written = appends_both got mid gets g.more (row_if k clock (number + 1) channel (recorded kind m)) g.written one;
  counted = omega (arith, g.counted, ap length is);
  rows = append_assoc g.more (row_if k clock (number + 1) channel (recorded kind m)) (rows_text k clock kind (number + 1) channel others) ∙ ap (λ (ms : List Message). g.more ++ rows_text k clock kind number channel ms) (sym is) ∙ g.rows;
}

pub ends : (k : Table) (clock : List Mark) (kind : StampKind) (got gets : Option (List ℕ)) (before number channel : ℕ) (all rest : List Message) → IsGoing k clock kind got gets before number channel all rest → rest ≡ [] → Appends got gets (rows_text k clock kind before channel all)
ends k clock kind got gets before number channel all rest g none =
    subst (Appends got gets) (sym (append-nil g.more) ∙ ap (λ (ms : List Message). g.more ++ rows_text k clock kind number channel ms) (sym none) ∙ g.rows) g.written

-- eight texts put one behind the other, as a field
pub eight_parts : (row : List (List ℕ)) (a b c d e f g h : List ℕ) → row ++ drop 1 ((((((((([] ++ a) ++ b) ++ c) ++ d) ++ e) ++ f) ++ g) ++ h)) ∷ [] ≡ row ++ drop 1 (a ++ (b ++ (c ++ (d ++ (e ++ (f ++ (g ++ h))))))) ∷ []
eight_parts row a b c d e f g h = ap (λ (text : List ℕ). row ++ drop 1 text ∷ []) (regroup a b c d e f g h)
  where
    regroup : (a b c d e f g h : List ℕ) → (((((((([] ++ a) ++ b) ++ c) ++ d) ++ e) ++ f) ++ g) ++ h) ≡ a ++ (b ++ (c ++ (d ++ (e ++ (f ++ (g ++ h))))))
    regroup a b c d e f g h = simp append_assoc

-- a writer that got nothing yet holds what the writer underneath does
pub fresh : (out : Option (List ℕ)) → Appends out (append_known out []) []
fresh None = tt
fresh (Some xs) = refl

-- the names, the rows, and all handed on to the writer underneath
pub all_written : (out first named rows last : Option (List ℕ)) (head text : List ℕ) → Appends out first [] → Appends first named head → Appends named rows text → Keeps rows last → Appends out last (head ++ text)
all_written out first named rows last head text a b c k = kept out rows last (head ++ text) (appends_both out named rows head text (appends_both out first named [] head a b) c) k
