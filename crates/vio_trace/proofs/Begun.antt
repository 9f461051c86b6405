-- Bytes whose front begins the text of a value: behind a front, of a list that is filled up, and of a row with lines below.
use Rattle.std.proofs.Common.{◌≡◌, ◌≤◌, ◌-◌, ℕ, List, [], ◌∷◌, ◌++◌, All, length, replicate, refl, sym, ap, ◌∙◌, append_assoc, append-nil, length-append, arith, Result, Ok, Err, IfErr}
use Rattle.std.specs.List.{flat_map}
use Rattle.std.proofs.lemmas.Grind.{flat_map-append}
use Rattle.std.proofs.lemmas.List.{length-replicate}
use Rattle.std.proofs.lemmas.List.Elements.{All-append, All-push, All-replicate}
use Rattle.vio_trace.specs.declared.unread.Fault.{Fault}
use Rattle.vio_trace.specs.declared.unread.Fault.TheVariants as faults
use Rattle.vio_trace.specs.Form.{Ascend}
use Rattle.vio_trace.specs.Begun.{AreFew, BeginsFew, BeginsOne, BeginsRow, BeginsRows, BeginsSome, EachFollows}
use Rattle.vio_trace.specs.Reading.{FollowsLast, IsLine}
use Rattle.vio_trace.specs.Shared.{FirstTells, WhereBadAt}
use Rattle.vio_trace.proofs.Pushed.{flat_push, push_order}

-- before the first byte, the text of any value is begun
pub begins_first : {A : Type 0} → (text : A → List ℕ) (fits : A → Type 0) (bytes : List ℕ) (value : A) → fits value
    → BeginsSome text fits bytes (length bytes)
begins_first text fits bytes value is = record {
  front = [];
  rest = bytes;
  more = text value;
  value = value;
  is = is;
  bytes_are = refl;
  past = refl;
  text_is = refl;
}

-- where a part is begun behind a front, the whole is
pub begins_part : {A B : Type 0} → (text : A → List ℕ) (fits : A → Type 0) (whole : B → List ℕ) (is : B → Type 0) (make : A → B) (tail : A → List ℕ)
    (front r bytes : List ℕ) (left : ℕ) → bytes ≡ front ++ r → ((a : A) → fits a → is (make a))
    → ((a : A) → fits a → whole (make a) ≡ front ++ (text a ++ tail a))
    → BeginsSome text fits r left → BeginsSome whole is bytes left
begins_part text fits whole is make tail front r bytes left e fit same b = record {
  front = front ++ b.front;
  rest = b.rest;
  more = b.more ++ tail b.value;
  value = make b.value;
  is = fit b.value b.is;
  bytes_are = e ∙ ap (λ (l : List ℕ). front ++ l) b.bytes_are ∙ sym (append_assoc front b.front b.rest);
  past = b.past;
  text_is = same b.value b.is ∙ ap (λ (l : List ℕ). front ++ (l ++ tail b.value)) b.text_is
      ∙ ap (λ (l : List ℕ). front ++ l) (append_assoc b.front b.more (tail b.value))
      ∙ sym (append_assoc front b.front (b.more ++ tail b.value));
}

-- rows that fit, exactly so many
pub record AreCounted {A : Type 0} (fits : A → Type 0) (count : ℕ) (rows : List A) : Type 0 where
  pub each : All fits rows
  pub number : length rows ≡ count

-- fewer rows can be filled up
pub filled_up : {A : Type 0} → (text : A → List ℕ) (fits : A → Type 0) (filler : A) (count : ℕ) (bytes : List ℕ) (left : ℕ) → fits filler
    → BeginsFew text fits count bytes left → BeginsSome (flat_map text) (AreCounted fits count) bytes left
filled_up {A} text fits filler count bytes left h b =
    begins_part (flat_map text) (AreFew fits count) (flat_map text) (AreCounted fits count) fill (λ (rows : List A). flat_map text (rest rows)) [] bytes bytes left refl
    (λ rows few. record {
      each = All-append fits rows (rest rows) few.each (All-replicate fits (count - length rows) filler h);
      number = omega (arith, length-append rows (rest rows), length-replicate (count - length rows) filler, few.few);
    })
    (λ rows few. flat_map-append text rows (rest rows)) b where
      rest : List A → List A
      rest rows = replicate (count - length rows) filler

      fill : List A → List A
      fill rows = rows ++ rest rows

-- where a list below a row's first line is begun, the row is
pub begins_below : {A Row : Type 0} → (part : A → List ℕ) (fits : A → Type 0) (filler : A) (count : ℕ)
    (text : Row → List ℕ) (in_range named : Row → Type 0) (make : List A → Row) (tail : List ℕ) (head mid r0 r bytes : List ℕ) (left : ℕ)
    → fits filler → IsLine head → bytes ≡ head ++ r0 → r0 ≡ mid ++ r
    → ((rows : List A) → All fits rows → length rows ≡ count → in_range (make rows))
    → ((rows : List A) → named (make rows))
    → ((rows : List A) → length rows ≡ count → text (make rows) ≡ head ++ (mid ++ (flat_map part rows ++ tail)))
    → BeginsFew part fits count r left → BeginsRow text in_range named bytes left
begins_below {A} part fits filler count text in_range named make tail head mid r0 r bytes left h line e0 e1 range names same few behind =
    let b = filled_up part fits filler count r left h few in
    let own = same b.value b.is.number in
    record {
      some = record {
        front = (head ++ mid) ++ b.front;
        rest = b.rest;
        more = b.more ++ tail;
        value = make b.value;
        is = range b.value b.is.each b.is.number;
        bytes_are = e0 ∙ ap (λ (l : List ℕ). head ++ l) (e1 ∙ ap (λ (l : List ℕ). mid ++ l) b.bytes_are)
            ∙ sym (append_assoc head mid (b.front ++ b.rest)) ∙ sym (append_assoc (head ++ mid) b.front b.rest);
        past = b.past;
        text_is = own ∙ ap (λ (l : List ℕ). head ++ (mid ++ (l ++ tail))) b.text_is
            ∙ ap (λ (l : List ℕ). head ++ (mid ++ l)) (append_assoc b.front b.more tail)
            ∙ sym (append_assoc head mid (b.front ++ (b.more ++ tail))) ∙ sym (append_assoc (head ++ mid) b.front (b.more ++ tail));
      };
      name = names b.value;
      first = record {
        first = head;
        rest = r0;
        theirs = mid ++ (flat_map part b.value ++ tail);
        is = line;
        bytes_are = e0;
        other_is = own;
      };
    }

-- a row of one line is bad at its first
pub first_alone : {T Row : Type 0} → (text : Row → List ℕ) (in_range named : Row → Type 0) (bytes : List ℕ) (r : Result T Fault)
    → IfErr r (λ fault. WhereBadAt fault (λ left. left ≡ length bytes)) → IfErr r (λ fault. WhereBadAt fault (BeginsRow text in_range named bytes))
first_alone text in_range named bytes (Ok read) h = tt
first_alone text in_range named bytes (Err (faults.Bad left)) h = λ behind. absurd (behind h)
first_alone text in_range named bytes (Err faults.NoMemory) h = tt

-- where the row's first line is bad, it is not one behind the first
pub first_head : {Row : Type 0} → (text : Row → List ℕ) (in_range named : Row → Type 0) (bytes : List ℕ) (left : ℕ) → left ≡ length bytes
    → BeginsRow text in_range named bytes left
first_head text in_range named bytes left e behind = absurd (behind e)

-- what may stand behind the last of some rows, where another may
pub follows_back : {Row : Type 0} → (before : Row → Row → Type 0) (rows : List Row) (a b : Row)
    → ((past : Row) → before past a → before past b) → FollowsLast before rows a → FollowsLast before rows b
follows_back before [] a b f h = tt
follows_back before (r ∷ []) a b f h = f r h
follows_back before (r ∷ s ∷ rows) a b f h = follows_back before (s ∷ rows) a b f h

-- where a row with the words of the first line may stand behind the others, each row with that line may
pub each_told : {Row : Type 0} → (text : Row → List ℕ) (in_range : Row → Type 0) (before : Row → Row → Type 0) (kind : ℕ)
    (rows : List Row) (row : Row) (bytes : List ℕ) → FirstTells text in_range before kind bytes row
    → FollowsLast before rows row → EachFollows text in_range before rows bytes
each_told text in_range before kind rows row bytes tells follows other more b s q f =
    follows_back before rows row b (λ past is. tells.back past b other more s q f is) follows

-- where the row behind those that were read is begun, the section is
pub begins_rows : {Row : Type 0} → (text : Row → List ℕ) (in_range named : Row → Type 0) (before : Row → Row → Type 0)
    (rows : List Row) (bytes rest : List ℕ) (left : ℕ) → All in_range rows → All named rows → Ascend before rows → bytes ≡ flat_map text rows ++ rest
    → EachFollows text in_range before rows rest → BeginsOne text in_range named rest left → BeginsRows text in_range named before bytes left
begins_rows text in_range named before rows bytes rest left range names order e follows one =
    let b = one.some in
    record {
      front = flat_map text rows ++ b.front;
      rest = b.rest;
      more = b.more;
      value = rows ++ b.value ∷ [];
      is = record {
        range = All-push in_range rows b.value range b.is;
        names = All-push named rows b.value names one.name;
        order = push_order before rows b.value order (follows (text b.value) [] b.value one.first b.is (sym (append-nil (text b.value))));
      };
      bytes_are = e ∙ ap (λ (l : List ℕ). flat_map text rows ++ l) b.bytes_are ∙ sym (append_assoc (flat_map text rows) b.front b.rest);
      past = b.past;
      text_is = flat_push text rows b.value ∙ ap (λ (l : List ℕ). flat_map text rows ++ l) b.text_is
          ∙ sym (append_assoc (flat_map text rows) b.front b.more);
    }

-- rows that were read, fewer than are to be, begin the list
pub few_begun : {A : Type 0} → (text : A → List ℕ) (fits : A → Type 0) (rows : List A) (bytes rest : List ℕ) (count left : ℕ)
    → All fits rows → length rows ≤ count → bytes ≡ flat_map text rows ++ rest → left ≡ length rest → BeginsFew text fits count bytes left
few_begun text fits rows bytes rest count left each few e past = record {
  front = flat_map text rows;
  rest = rest;
  more = [];
  value = rows;
  is = record { each = each; few = few };
  bytes_are = e;
  past = sym past;
  text_is = sym (append-nil (flat_map text rows));
}
