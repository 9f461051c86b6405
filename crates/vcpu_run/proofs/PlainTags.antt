-- The tags of a plain client's rows: the row of the request that is served has a tag of its own, and those of other units do not matter.
use Rattle.std.proofs.Common.{◌≡◌, ◌≢◌, ◌∙◌, ◌++◌, ◌<◌, ◌≤◌, ◌∷◌, inl, inr, ℕ, All, Bool, true, false, cond, List, [], map, refl, sym, ap, subst, arith}
use Rattle.std.proofs.Math.Logic.{∥∥₁_elim}
use Rattle.std.proofs.Props.{props}
use Rattle.std.proofs.lemmas.Bool.Decides.{nat_tests}
use Rattle.std.proofs.lemmas.List.Elements.{All-cons, All-get_or, All-head, All-nil, All-push, All-tail, filter-append}
use Rattle.std.proofs.lemmas.List.Quantifiers.{all_pairs_push}
use Rattle.std.specs.List.{filter}
use Rattle.vio_num.specs.declared.history.Served.{Served}
use Rattle.vio_num.specs.declared.names.UnitId.{UnitId}
use Rattle.block_server.specs.Answering.{OnlyRowsOf}
use Rattle.block_server.specs.Makers.{same_unit}
use Rattle.block_server.specs.RowsOn.{AddsFor, AddsRowOf, row_tag}
use Rattle.block_server.specs.declared.request.Request.{Request}
use Rattle.vcpu_run.specs.PlainBorne.{rows_by}
use Rattle.vcpu_run.specs.PlainRows.{RequestsRise, TagsKept, tags_by}

pub one_same : (a b : UnitId) → a ≡ b → same_unit a b ≡ true
one_same a b is = grind (arith, nat_tests, is)

pub same_one : (a b : UnitId) → same_unit a b ≡ true → a ≡ b
same_one a b is = grind (arith, nat_tests)

pub map_push : (rows : List Served) (row : Served) → map row_tag (rows ++ row ∷ []) ≡ map row_tag rows ++ row_tag row ∷ []
map_push [] row = refl
map_push (first ∷ rows) row = ap (λ tags. row_tag first ∷ tags) (map_push rows row)

-- the tags of a unit's rows, with one more
tags_push : (unit : UnitId) (rows : List Served) (row : Served) → row.unit ≡ unit → tags_by unit (rows ++ row ∷ []) ≡ tags_by unit rows ++ row_tag row ∷ []
tags_push unit rows row own =
    ap (map row_tag)
    (filter-append (λ (r : Served). same_unit r.unit unit) rows (row ∷ [])
    ∙ ap (λ b. filter (λ (r : Served). same_unit r.unit unit) rows ++ cond b (row ∷ []) []) (one_same row.unit unit own))
    ∙ map_push (filter (λ (r : Served). same_unit r.unit unit) rows) row

tags_fewer : (tags : List ℕ) (last : ℕ) (request : Request) (rest : List Request) → TagsKept tags last (request ∷ rest) → TagsKept tags last rest
tags_fewer tags last request rest kept = record {
  apart = kept.apart;
  most = kept.most;
  below = All-tail (λ (r : Request). All (λ tag. tag < r.tag) tags) request rest kept.below;
  rise = kept.rise.2;
}

-- the oldest request was served
tags_served : (tags : List ℕ) (last : ℕ) (request : Request) (rest : List Request) → TagsKept tags last (request ∷ rest) → TagsKept (tags ++ request.tag ∷ []) last rest
tags_served tags last request rest kept = record {
  apart = all_pairs_push (λ (a b : ℕ). a ≢ b) tags request.tag kept.apart
      (λ k d less same. omega (arith, All-get_or (λ tag. tag < request.tag) tags k d less first, same));
  most = All-push (λ tag. tag ≤ last) tags request.tag kept.most kept.rise.0;
  below = each rest kept.rise.1 others;
  rise = kept.rise.2;
}
  where
    first : All (λ tag. tag < request.tag) tags
    first = All-head (λ (r : Request). All (λ tag. tag < r.tag) tags) request rest kept.below

    others : All (λ (r : Request). All (λ tag. tag < r.tag) tags) rest
    others = All-tail (λ (r : Request). All (λ tag. tag < r.tag) tags) request rest kept.below

    each : (requests : List Request) → All (λ (r : Request). request.tag < r.tag) requests → All (λ (r : Request). All (λ tag. tag < r.tag) tags) requests
        → All (λ (r : Request). All (λ tag. tag < r.tag) (tags ++ request.tag ∷ [])) requests
    each [] rise below = All-nil (λ (r : Request). All (λ tag. tag < r.tag) (tags ++ request.tag ∷ []))
    each (r ∷ requests) rise below =
        All-cons (λ (r : Request). All (λ tag. tag < r.tag) (tags ++ request.tag ∷ [])) r requests
        (All-push (λ tag. tag < r.tag) tags request.tag (All-head (λ (r : Request). All (λ tag. tag < r.tag) tags) r requests below)
        (All-head (λ (r : Request). request.tag < r.tag) r requests rise))
        (each requests (All-tail (λ (r : Request). request.tag < r.tag) r requests rise) (All-tail (λ (r : Request). All (λ tag. tag < r.tag) tags) r requests below))

pub tags_added : (unit : UnitId) (request : Request) (rows rows' : List Served) → (adds : AddsRowOf unit request rows rows') → tags_by unit rows' ≡ tags_by unit rows ++ request.tag ∷ []
tags_added unit request rows rows' adds = ap (tags_by unit) adds.added ∙ tags_push unit rows adds.row adds.unit_is ∙ ap (λ tag. tags_by unit rows ++ tag ∷ []) adds.tag_is

pub tags_next : (unit : UnitId) (rows rows' : List Served) (last : ℕ) (request : Request) (rest : List Request) → TagsKept (tags_by unit rows) last (request ∷ rest)
    → AddsFor unit request rows rows' → TagsKept (tags_by unit rows') last rest
tags_next unit rows rows' last request rest kept (inl adds) =
    subst (λ tags. TagsKept tags last rest) (sym (tags_added unit request rows rows' adds)) (tags_served (tags_by unit rows) last request rest kept)
tags_next unit rows rows' last request rest kept (inr none) =
    subst (λ tags. TagsKept tags last rest) (sym (ap (tags_by unit) none.1)) (tags_fewer (tags_by unit rows) last request rest kept)

-- ---- a turn of another unit

rows_else : (unit other : UnitId) → other ≢ unit → (rows rows' : List Served) → OnlyRowsOf other rows rows' → rows_by unit rows' ≡ rows_by unit rows
rows_else unit other apart [] [] only = refl
rows_else unit other apart [] (new ∷ news) only =
    ap (λ b. cond b (new ∷ filter (λ (r : Served). same_unit r.unit unit) news) (filter (λ (r : Served). same_unit r.unit unit) news))
    (differ unit other apart new (All-head (λ (row : Served). row.unit ≡ other) new news only))
    ∙ rows_else unit other apart [] news (All-tail (λ (row : Served). row.unit ≡ other) new news only)
  where
    differ : (unit other : UnitId) → other ≢ unit → (row : Served) → row.unit ≡ other → same_unit row.unit unit ≡ false
    differ unit other apart row own = by (same_unit row.unit unit) refl
      where
        by : (b : Bool) → same_unit row.unit unit ≡ b → same_unit row.unit unit ≡ false
        by true is = absurd (apart (sym own ∙ same_one row.unit unit is))
        by false is = is
rows_else unit other apart (row ∷ rows) [] only = absurd only
rows_else unit other apart (row ∷ rows) (new ∷ news) (inl same, only) = one (rows_else unit other apart rows news only)
  where
    by : (b : Bool) → rows_by unit news ≡ rows_by unit rows → cond b (row ∷ filter (λ (r : Served). same_unit r.unit unit) news) (filter (λ (r : Served). same_unit r.unit unit) news)
        ≡ cond b (row ∷ filter (λ (r : Served). same_unit r.unit unit) rows) (filter (λ (r : Served). same_unit r.unit unit) rows)
    by true rest = ap (λ (list : List Served). row ∷ list) rest
    by false rest = rest

    one : rows_by unit news ≡ rows_by unit rows → rows_by unit (new ∷ news) ≡ rows_by unit (row ∷ rows)
    one rest = ap (λ (r : Served). rows_by unit (r ∷ news)) same ∙ by (same_unit row.unit unit) rest
rows_else unit other apart (row ∷ rows) (new ∷ news) (inr both, only) =
    ap (λ b. cond b (new ∷ filter (λ (r : Served). same_unit r.unit unit) news) (filter (λ (r : Served). same_unit r.unit unit) news)) (differ new both.is)
    ∙ rows_else unit other apart rows news only
    ∙ sym (ap (λ b. cond b (row ∷ filter (λ (r : Served). same_unit r.unit unit) rows) (filter (λ (r : Served). same_unit r.unit unit) rows)) (differ row both.was))
  where
    differ : (r : Served) → r.unit ≡ other → same_unit r.unit unit ≡ false
    differ r own = by (same_unit r.unit unit) refl
      where
        by : (b : Bool) → same_unit r.unit unit ≡ b → same_unit r.unit unit ≡ false
        by true is = absurd (apart (sym own ∙ same_one r.unit unit is))
        by false is = is

-- that two lists of rows are the same has one proof at most
same_rows : (a b : List Served) → IsProp (a ≡ b)
same_rows a b = Prim.hlevel props

pub rows_spared : (unit other : UnitId) (rows rows' : List Served) → other ≢ unit → ∥ OnlyRowsOf other rows rows' ∥₁ → rows_by unit rows' ≡ rows_by unit rows
rows_spared unit other rows rows' apart only = ∥∥₁_elim only (same_rows (rows_by unit rows') (rows_by unit rows)) (λ kept. rows_else unit other apart rows rows' kept)

-- ---- the client asks for more

rise_on : (last last' : ℕ) (requests : List Request) → last ≤ last' → RequestsRise last requests → RequestsRise last' requests
rise_on last last' [] more rise = tt
rise_on last last' (request ∷ requests) more rise = (omega (arith, rise.0, more), rise.1, rise_on last last' requests more rise.2)

rise_push : (last last' : ℕ) (requests : List Request) (request : Request) → last ≤ last' → last < request.tag → request.tag ≤ last' → RequestsRise last requests
    → RequestsRise last' (requests ++ request ∷ [])
rise_push last last' [] request more above most rise = (most, All-nil (λ (other : Request). request.tag < other.tag), tt)
rise_push last last' (first ∷ requests) request more above most rise = (
  omega (arith, rise.0, more),
  All-push (λ (other : Request). first.tag < other.tag) requests request rise.1 (omega (arith, rise.0, above)),
  rise_push last last' requests request more above most rise.2,
)

most_on : (last last' : ℕ) (tags : List ℕ) → last ≤ last' → All (λ tag. tag ≤ last) tags → All (λ tag. tag ≤ last') tags
most_on last last' [] more most = All-nil (λ tag. tag ≤ last')
most_on last last' (tag ∷ tags) more most =
    All-cons (λ t. t ≤ last') tag tags (omega (arith, All-head (λ t. t ≤ last) tag tags most, more)) (most_on last last' tags more (All-tail (λ t. t ≤ last) tag tags most))

-- these tags are below one above all
all_below : (last above : ℕ) (tags : List ℕ) → last < above → All (λ tag. tag ≤ last) tags → All (λ tag. tag < above) tags
all_below last above [] less most = All-nil (λ tag. tag < above)
all_below last above (tag ∷ tags) less most =
    All-cons (λ t. t < above) tag tags (omega (arith, All-head (λ t. t ≤ last) tag tags most, less)) (all_below last above tags less (All-tail (λ t. t ≤ last) tag tags most))

-- it asked for nothing
pub tags_on : (tags : List ℕ) (last last' : ℕ) (requests : List Request) → last ≤ last' → TagsKept tags last requests → TagsKept tags last' requests
tags_on tags last last' requests more kept =
    record { apart = kept.apart; most = most_on last last' tags more kept.most; below = kept.below; rise = rise_on last last' requests more kept.rise }

-- it asked for one more
pub tags_asked : (tags : List ℕ) (last last' : ℕ) (requests : List Request) (request : Request) → last ≤ last' → last < request.tag → request.tag ≤ last' → TagsKept tags last requests
    → TagsKept tags last' (requests ++ request ∷ [])
tags_asked tags last last' requests request more above most kept = record {
  apart = kept.apart;
  most = most_on last last' tags more kept.most;
  below = All-push (λ (r : Request). All (λ tag. tag < r.tag) tags) requests request kept.below (all_below last request.tag tags above kept.most);
  rise = rise_push last last' requests request more above most kept.rise;
}

-- and of what was pending nothing is left
pub tags_none : (tags : List ℕ) (last last' : ℕ) (requests : List Request) → last ≤ last' → TagsKept tags last requests → TagsKept tags last' []
tags_none tags last last' requests more kept =
    record { apart = kept.apart; most = most_on last last' tags more kept.most; below = All-nil (λ (r : Request). All (λ tag. tag < r.tag) tags); rise = tt }

-- before all rows
pub tags_new : (last : ℕ) → TagsKept [] last []
tags_new last = record {
  apart = λ i j d less within. absurd (omega (arith, within));
  most = All-nil (λ tag. tag ≤ last);
  below = All-nil (λ (r : Request). All (λ tag. tag < r.tag) []);
  rise = tt;
}
