-- Which entries answered the requests to log in: each grants a login, and a line says so, or rejects one (SRP, "SRP_LOGIN_RSP
-- response", "SRP_LOGIN_REJ response").
use Rattle.std.specs.Prelude.{◌≡◌, ◌||◌, ◌++◌, ℕ, Bool, true, false, All, List, [], ◌∷◌, Option, Some, None, filter, map}
use Rattle.block_server.specs.Asked.{AskedAt}
use Rattle.std.specs.List.{filter_map}
use Rattle.crq_ring.specs.declared.rows.PipeRow.{PipeRow}
use Rattle.vio_num.specs.Entry.{srp_entry}
use Rattle.vio_num.specs.declared.entry.Entry.{Entry}
use Rattle.vio_num.specs.declared.history.Grant.{Grant}
use Rattle.vio_num.specs.declared.history.Grant.TheVariants.{Granted, Lapsed}
use Rattle.block_server.specs.Causes.{Hearing}
use Rattle.block_server.specs.Entries.{is_login_rejection, is_login_response, login_rej_len, login_rsp_len}
use Rattle.block_server.specs.Granting.{IsGrantedOver, IsRejectedOver}

-- whether an entry grants or rejects a login, by its length
abbrev pub is_login_answer : Entry → Bool
is_login_answer e = is_login_response e || is_login_rejection e

-- the answers to requests to log in, among entries that were put, in their order
abbrev pub login_answers : List PipeRow → List Entry
login_answers rows = filter is_login_answer (map (λ row. row.entry) rows)

-- what one entry adds to them
abbrev pub login_put : Entry → List Entry
login_put entry = filter is_login_answer (entry ∷ [])

-- whether a line grants a login, and those that do
abbrev pub is_grant : Grant → Bool
is_grant (Granted unit session login number credits) = true
is_grant (Lapsed unit session login cause outstanding granted) = false

abbrev pub grants_in : List Grant → List Grant
grants_in lines = filter is_grant lines

-- an answer that was put: its entry, the line that says what it grants, if it grants a login, where its request was asked, and, if
-- it rejects one, the login that was on, or 0
pub record LoginAnswer : Type 0 where
  pub entry : Entry
  pub line : Option Grant
  pub asked : AskedAt
  pub on : ℕ

abbrev pub entry_put : LoginAnswer → Entry
entry_put answer = answer.entry

abbrev pub line_of : LoginAnswer → Option Grant
line_of answer = answer.line

abbrev pub asked_at : LoginAnswer → AskedAt
asked_at answer = answer.asked

-- The entry puts what granted the login of this number so many requests: it has the length of an SRP_LOGIN_RSP, and the tag
-- of the request.
pub record IsGrantPut (Hears : Hearing) (taken : List PipeRow) (session number credits : ℕ) (entry : Entry) (asked : AskedAt) : Type 0 where
  pub over : IsGrantedOver Hears taken session number credits
  pub entry_is : entry ≡ srp_entry login_rsp_len over.asked.tag
  pub asked_is : asked ≡ record { session = session; number = number }

-- The entry puts what rejected a login: it has the length of an SRP_LOGIN_REJ, and the tag of the request.
pub record IsRejectionPut (Hears : Hearing) (taken : List PipeRow) (entry : Entry) (asked : AskedAt) (on : ℕ) : Type 0 where
  pub over : IsRejectedOver Hears taken asked.session asked.number
  pub entry_is : entry ≡ srp_entry login_rej_len over.asked.tag
  pub on_is : over.current ≡ on

-- The answer is one or the other.
abbrev pub IsLoginPut : (Hears : Hearing) (taken : List PipeRow) → Entry → Option Grant → AskedAt → (on : ℕ) → Type 0
IsLoginPut Hears taken entry (Some (Granted unit session login number credits)) asked on = IsGrantPut Hears taken session number credits entry asked
IsLoginPut Hears taken entry (Some (Lapsed unit session login cause outstanding granted)) asked on = ⊥
IsLoginPut Hears taken entry None asked on = IsRejectionPut Hears taken entry asked on

abbrev pub IsLoginAnswer : (Hears : Hearing) (taken : List PipeRow) → LoginAnswer → Type 0
IsLoginAnswer Hears taken answer = IsLoginPut Hears taken answer.entry answer.line answer.asked answer.on

-- Answers to requests to log in were put behind those that were, and the lines that came and grant a login are those of
-- the answers that do, one each, in their order.
pub record LoginsMore (Hears : Hearing) (taken : List PipeRow) (answers answers' : List Entry) (lines lines' : List Grant) : Type 0 where
  pub more : List LoginAnswer
  pub put : answers' ≡ answers ++ map entry_put more
  pub granted : grants_in lines' ≡ grants_in lines ++ filter_map line_of more
  pub each : All (IsLoginAnswer Hears taken) more
