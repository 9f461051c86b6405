-- The answers to requests to log in that were put, over steps one after the other.
use Rattle.std.proofs.Common.{◌≡◌, ◌++◌, ◌∙◌, ℕ, Bool, false, All, List, [], ◌∷◌, Option, Some, None, map, refl, sym, ap, append-nil, append_assoc}
use Rattle.std.specs.List.{filter_map}
use Rattle.std.proofs.lemmas.List.{map-append}
use Rattle.std.proofs.lemmas.List.Elements.{All-append, All-nil, All-weaker, filter-append, filter_map-append}
use Rattle.crq_ring.specs.declared.rows.PipeRow.{PipeRow}
use Rattle.crq_session.specs.Answered.{TurnsBack}
use Rattle.crq_session.specs.Answers.{IfClosed, OnNotSent}
use Rattle.crq_session.specs.EndState.{EndState, OnlyReserves}
use Rattle.crq_session.specs.declared.answers.SendAnswer.{SendAnswer}
use Rattle.crq_session.specs.declared.answers.SendAnswer.TheVariants as sending
use Rattle.vio_num.specs.Words.{Begins}
use Rattle.vio_num.specs.declared.entry.Entry.{Entry}
use Rattle.vio_num.specs.declared.history.Grant.{Grant}
use Rattle.vio_num.specs.declared.history.Grant.TheVariants.{Granted, Lapsed}
use Rattle.vio_num.specs.declared.history.Lapse.{Lapse}
use Rattle.vio_num.specs.declared.names.UnitId.{UnitId}
use Rattle.block_server.specs.Asked.{AskedAt}
use Rattle.block_server.specs.Causes.{Hearing}
use Rattle.block_server.specs.Entries.{IsPlain}
use Rattle.block_server.specs.Granting.{IsGrantedOver, IsRejectedOver, IsSrpAt}
use Rattle.block_server.specs.LoginAnswers.{IsLoginAnswer, IsLoginPut, LoginAnswer, LoginsMore, entry_put, grants_in, is_grant, is_login_answer, line_of, login_answers, login_put}
use Rattle.block_server.proofs.Onces.{put_append, put_plain}
use Rattle.block_server.proofs.Receiving.{session_more}
use Rattle.block_server.proofs.Serves.{same_sent}

-- what was known of an entry stays known, as more is taken
pub srp_more : (old new : List PipeRow) (session number : ℕ) (entry : Entry) → Begins old new → IsSrpAt old session number entry → IsSrpAt new session number entry
srp_more old new session number entry more is = record { there = session_more session old new number entry more is.there; srp = is.srp }

pub granted_more : (Hears : Hearing) (old new : List PipeRow) (session number credits : ℕ) → Begins old new → IsGrantedOver Hears old session number credits → IsGrantedOver Hears new session number credits
granted_more Hears old new session number credits more is = record {
  entry = is.entry;
  at = srp_more old new session number is.entry more is.at;
  bytes = is.bytes;
  long = is.long;
  brought = is.brought;
  asked = is.asked;
  asks = is.asks;
  may = is.may;
  answer = is.answer;
  grants = is.grants;
  written = is.written;
}

pub rejected_more : (Hears : Hearing) (old new : List PipeRow) (session number : ℕ) → Begins old new → IsRejectedOver Hears old session number → IsRejectedOver Hears new session number
rejected_more Hears old new session number more is = record {
  entry = is.entry;
  at = srp_more old new session number is.entry more is.at;
  bytes = is.bytes;
  long = is.long;
  brought = is.brought;
  asked = is.asked;
  asks = is.asks;
  current = is.current;
  answer = is.answer;
  rejects = is.rejects;
  written = is.written;
}

pub put_more : (Hears : Hearing) (old new : List PipeRow) (entry : Entry) (line : Option Grant) (asked : AskedAt) (on : ℕ) → Begins old new → IsLoginPut Hears old entry line asked on
    → IsLoginPut Hears new entry line asked on
unfolding granted_more rejected_more
put_more Hears old new entry (Some (Granted unit session login number credits)) asked on more is =
    record { over = granted_more Hears old new session number credits more is.over; entry_is = is.entry_is; asked_is = is.asked_is }
put_more Hears old new entry (Some (Lapsed unit session login cause outstanding granted)) asked on more is = is
put_more Hears old new entry None asked on more is =
    record { over = rejected_more Hears old new asked.session asked.number more is.over; entry_is = is.entry_is; on_is = is.on_is }

-- nothing of them was put, and no login was granted
unfoldable pub logins_none : (Hears : Hearing) (taken : List PipeRow) (answers answers' : List Entry) (lines lines' : List Grant) → answers' ≡ answers → grants_in lines' ≡ grants_in lines
    → LoginsMore Hears taken answers answers' lines lines'
logins_none Hears taken answers answers' lines lines' put granted =
    record { more = []; put = put ∙ sym (append-nil answers); granted = granted ∙ sym (append-nil (grants_in lines)); each = All-nil (IsLoginAnswer Hears taken) }

-- one step behind another
unfoldable pub logins_on : (Hears : Hearing) (taken taken' : List PipeRow) (a b c : List Entry) (x y z : List Grant) → Begins taken taken' → LoginsMore Hears taken a b x y → LoginsMore Hears taken' b c y z
    → LoginsMore Hears taken' a c x z
logins_on Hears taken taken' a b c x y z more first next = record {
  more = first.more ++ next.more;
  put = next.put ∙ ap (λ front. front ++ map entry_put next.more) first.put ∙ append_assoc a (map entry_put first.more) (map entry_put next.more)
      ∙ ap (λ list. a ++ list) (sym (map-append entry_put first.more next.more));
  granted = next.granted ∙ ap (λ front. front ++ filter_map line_of next.more) first.granted ∙ append_assoc (grants_in x) (filter_map line_of first.more) (filter_map line_of next.more)
      ∙ ap (λ list. grants_in x ++ list) (sym (filter_map-append line_of first.more next.more));
  each = All-append (IsLoginAnswer Hears taken') first.more next.more
      (All-weaker (IsLoginAnswer Hears taken) (IsLoginAnswer Hears taken') (λ answer is. put_more Hears taken taken' answer.entry answer.line answer.asked answer.on more is) first.more first.each) next.each;
}

-- an entry that answers no request answers no request to log in
pub plain_login : (entry : Entry) → IsPlain entry → is_login_answer entry ≡ false
plain_login entry is = rw (is.no_login, is.no_rejection) refl

pub logins_plain : (sent sent' : List PipeRow) (row : PipeRow) → IsPlain row.entry → sent' ≡ sent ++ row ∷ [] → login_answers sent' ≡ login_answers sent
logins_plain sent sent' row is = put_plain is_login_answer sent sent' row (plain_login row.entry is)

-- one entry more was put, or none
pub logins_put : (sent sent' : List PipeRow) (row : PipeRow) → sent' ≡ sent ++ row ∷ [] → login_answers sent' ≡ login_answers sent ++ login_put row.entry
logins_put sent sent' row put = ap login_answers put ∙ put_append is_login_answer sent (row ∷ [])

pub logins_same : (shared : Bool) (old new : EndState) (answer : SendAnswer) → ((number : ℕ) → answer ≡ sending.Success number → ⊥)
    → ((number held : ℕ) → answer ≡ sending.Dropped number held → ⊥) → IfClosed answer (TurnsBack shared old new) → OnNotSent answer (OnlyReserves old new)
    → login_answers new.sent ≡ login_answers old.sent
logins_same shared old new answer success dropped closed refused = ap login_answers (same_sent shared old new answer success dropped closed refused)
