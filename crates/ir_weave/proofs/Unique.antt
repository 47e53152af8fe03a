-- The lists of two states at one cut are the same.
use Rattle.std.proofs.Common.{◌≡◌, ℕ, length, sym, ap, ◌∙◌, arith}
use Rattle.std.proofs.lemmas.List.{ext_get_or}
use Rattle.ir_object.specs.Cell.{readers, has_writer}
use Rattle.ir_object.specs.Empty.{empty}
use Rattle.ir_flat.specs.Flat.{Flat, IsShared, cell_of, idle, tables}
use Rattle.ir_weave.specs.Standing.{StandsAtPlace}
use Rattle.ir_weave.specs.Laws.{OneStateEach}

-- objects with the same word and contents, that count the same threads
cells_equal_by_tables : (o : ℕ) (s r : Flat) → IsShared s o → IsShared r o → length s.threads ≡ length r.threads
    → (tables s).objects o ≡ (tables r).objects o → cell_of s o ≡ cell_of r o
cells_equal_by_tables o s r h k size same = λ i. record { fields = fields i; words = words i }
  where
    inside : (cell_of s o).fields.inside ≡ (cell_of r o).fields.inside
    inside = h.counts.readers ∙ (λ i. readers (size i) (same i).inside) ∙ sym k.counts.readers

    writer : (cell_of s o).fields.writer ≡ (cell_of r o).fields.writer
    writer = h.counts.writer ∙ (λ i. has_writer (size i) (same i).inside) ∙ sym k.counts.writer

    fields : (cell_of s o).fields ≡ (cell_of r o).fields
    fields = λ i. record { version = (same i).version; left = (same i).left; inside = inside i; writer = writer i }

    words : (cell_of s o).words ≡ (cell_of r o).words
    words = ext_get_or 0 (cell_of s o).words (cell_of r o).words (h.words ∙ sym k.words) (λ j l. ap (λ b. b.words j) same)

pub one_state_at_each_cut : OneStateEach
one_state_at_each_cut f p s r run flat flat' h k =
    let a : StandsAtPlace f p s run.run = h.each run.run run.whole in
    let b : StandsAtPlace f p r run.run = k.each run.run run.whole in
    let size : length s.threads ≡ length r.threads = h.threads ∙ sym k.threads in
    let count : length s.objects ≡ length r.objects = h.objects ∙ sym k.objects in
    let threads : s.threads ≡ r.threads = ext_get_or idle s.threads r.threads size (λ t l. a.threads t ∙ sym (b.threads t)) in
    let objects : s.objects ≡ r.objects = ext_get_or empty s.objects r.objects count
    (λ o l. cells_equal_by_tables o s r (flat.objects o l) (flat'.objects o (omega (arith, l, count))) size (a.objects o ∙ sym (b.objects o))) in
    λ i. record { code = (h.code ∙ sym k.code) i; threads = threads i; objects = objects i }
