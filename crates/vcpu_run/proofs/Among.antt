-- Items that stand among others, in their order, and the tags of entries.
use Rattle.std.proofs.Common.{◌≡◌, ◌∙◌, inl, inr, ℕ, List, [], ◌∷◌, ◌++◌, filter, map, refl, sym, ap, subst, append-nil}
use Rattle.std.proofs.lemmas.List.{append_assoc, map-append}
use Rattle.std.proofs.lemmas.List.Elements.{filter-append}
use Rattle.vio_num.specs.declared.entry.Entry.{Entry}
use Rattle.vio_num.specs.Entry.{is_srp_entry}
use Rattle.crq_ring.specs.declared.rows.PipeRow.{PipeRow}
use Rattle.vcpu_run.specs.Among.{AreAmong}
use Rattle.vcpu_run.specs.AnswersTaken.{tags_among, tags_taken}

pub among_same : {Item : Type 0} (items : List Item) → AreAmong items items
among_same [] = tt
among_same (item ∷ items) = inl (refl, among_same items)

-- one more behind which they are sought
pub among_skip : {Item : Type 0} (items : List Item) (other : Item) (others : List Item) → AreAmong items others → AreAmong items (other ∷ others)
among_skip [] other others is = tt
among_skip (item ∷ items) other others is = inr is

-- more behind the others
pub among_more : {Item : Type 0} (items others more : List Item) → AreAmong items others → AreAmong items (others ++ more)
among_more [] others more is = tt
among_more (item ∷ items) [] more is = absurd is
among_more (item ∷ items) (other ∷ others) more (inl h) = inl (h.0, among_more items others more h.1)
among_more (item ∷ items) (other ∷ others) more (inr h) = inr (among_more (item ∷ items) others more h)

-- these stand at their end
among_end : {Item : Type 0} (more others : List Item) → AreAmong more (others ++ more)
among_end more [] = among_same more
among_end more (other ∷ others) = among_skip more other (others ++ more) (among_end more others)

-- the same more behind both
pub among_both : {Item : Type 0} (items others more : List Item) → AreAmong items others → AreAmong (items ++ more) (others ++ more)
among_both [] others more is = among_end more others
among_both (item ∷ items) [] more is = absurd is
among_both (item ∷ items) (other ∷ others) more (inl h) = inl (h.0, among_both items others more h.1)
among_both (item ∷ items) (other ∷ others) more (inr h) = inr (among_both (item ∷ items) others more h)

-- without the first
among_tail : (tag : ℕ) (tags others : List ℕ) → AreAmong (tag ∷ tags) others → AreAmong tags others
among_tail tag tags [] is = absurd is
among_tail tag tags (other ∷ others) (inl h) = among_skip tags other others h.1
among_tail tag tags (other ∷ others) (inr h) = among_skip tags other others (among_tail tag tags others h)

among_drop : (middle more others : List ℕ) → AreAmong (middle ++ more) others → AreAmong more others
among_drop [] more others is = is
among_drop (tag ∷ middle) more others is = among_drop middle more others (among_tail tag (middle ++ more) others is)

-- without some between
pub among_less : (front middle more others : List ℕ) → AreAmong (front ++ (middle ++ more)) others → AreAmong (front ++ more) others
among_less [] middle more others is = among_drop middle more others is
among_less (tag ∷ front) middle more [] is = absurd is
among_less (tag ∷ front) middle more (other ∷ others) (inl h) = inl (h.0, among_less front middle more others h.1)
among_less (tag ∷ front) middle more (other ∷ others) (inr h) = inr (among_less (tag ∷ front) middle more others h)

-- the first of them alone
pub among_front : (front rest others : List ℕ) → AreAmong (front ++ rest) others → AreAmong front others
among_front front rest others is =
    subst (λ (tags : List ℕ). AreAmong tags others) (append-nil front)
    (among_less front rest [] others (subst (λ (tags : List ℕ). AreAmong (front ++ tags) others) (sym (append-nil rest)) is))

-- the tags of entries, one list behind another
pub tags_both : (front back : List Entry) → tags_among (front ++ back) ≡ tags_among front ++ tags_among back
tags_both front back =
    ap (λ (entries : List Entry). map (λ (e : Entry). e.low) entries) (filter-append is_srp_entry front back)
    ∙ map-append (λ (e : Entry). e.low) (filter is_srp_entry front) (filter is_srp_entry back)

-- one row more was taken
pub taken_next : (rows : List PipeRow) (row : PipeRow) → tags_taken (rows ++ row ∷ []) ≡ tags_taken rows ++ tags_among (row.entry ∷ [])
taken_next rows row =
    ap tags_among (map-append (λ (r : PipeRow). r.entry) rows (row ∷ [])) ∙ tags_both (map (λ (r : PipeRow). r.entry) rows) (row.entry ∷ [])

-- tags behind which entries wait, of which the first front stays
pub wait_less : (tags : List ℕ) (front back : List Entry) (others : List ℕ) → AreAmong (tags ++ tags_among (front ++ back)) others → AreAmong (tags ++ tags_among front) others
wait_less tags front back others is =
    among_front (tags ++ tags_among front) (tags_among back) others
    (subst (λ (all : List ℕ). AreAmong all others) (ap (λ (more : List ℕ). tags ++ more) (tags_both front back) ∙ sym (append_assoc tags (tags_among front) (tags_among back))) is)

-- one entry more waits that was taken last
pub wait_next : (tags : List ℕ) (front : List Entry) (rows : List PipeRow) (row : PipeRow) → AreAmong (tags ++ tags_among front) (tags_taken rows)
    → AreAmong (tags ++ tags_among (front ++ row.entry ∷ [])) (tags_taken (rows ++ row ∷ []))
wait_next tags front rows row is =
    subst (AreAmong (tags ++ tags_among (front ++ row.entry ∷ []))) (sym (taken_next rows row))
    (subst (λ (all : List ℕ). AreAmong all (tags_taken rows ++ tags_among (row.entry ∷ [])))
    (append_assoc tags (tags_among front) (tags_among (row.entry ∷ [])) ∙ sym (ap (λ (more : List ℕ). tags ++ more) (tags_both front (row.entry ∷ []))))
    (among_both (tags ++ tags_among front) (tags_taken rows) (tags_among (row.entry ∷ [])) is))

-- none waits any more
pub wait_none : (tags : List ℕ) (all : List Entry) (others : List ℕ) → AreAmong (tags ++ tags_among all) others → AreAmong (tags ++ tags_among []) others
wait_none tags all others is = wait_less tags [] all others is

-- one entry more was taken, and does not wait
pub taken_besides : (tags : List ℕ) (rows : List PipeRow) (row : PipeRow) → AreAmong tags (tags_taken rows) → AreAmong tags (tags_taken (rows ++ row ∷ []))
taken_besides tags rows row is =
    subst (AreAmong tags) (sym (taken_next rows row)) (among_more tags (tags_taken rows) (tags_among (row.entry ∷ [])) is)
