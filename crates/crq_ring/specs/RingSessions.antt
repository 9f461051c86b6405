-- What the calls on a ring's control word leave of its ends.
use Rattle.std.specs.Prelude.{◌≡◌, ℕ, ◌+◌, ◌/◌, ◌%◌, ◌<◌, ◌≤◌, true, false, []}
use Rattle.crq_ring.specs.Control.{control_word, ShowsClosed, ShowsInside}
use Rattle.vio_num.specs.Words.{ReadsWord}
use Rattle.crq_ring.specs.Ends.{SendValue, RecvValue, end_sent, end_taken, heard_now}
use Rattle.crq_ring.specs.Ring.{KnowsTaken, KnowsPut, OnlySees}

-- The next session is open, in which nothing was put and nothing taken.
pub record BeginsSession (old : RecvValue) (number : ℕ) (new : RecvValue) : Type 0 where
  pub number_is : number ≡ old.session + 1
  pub session : new.session ≡ number
  pub is_open : new.is_open ≡ true
  pub none_put : heard_now new ≡ []
  pub none_taken : end_taken new ≡ []
  pub knows : KnowsPut old new
  pub taken : new.taken ≡ old.taken
  pub empty : new.empty ≡ old.empty
  pub spare : new.spare ≡ old.spare
  pub renewals : old.renewals ≡ new.renewals + 1
  pub read : ReadsWord old.last new.last (control_word old.session false false)

-- The session has ended, as the word shows that was read: it was open, without a sender. All that was put in
-- it is known, and no sender puts anything in it any more.
pub record EndsSession (old new : RecvValue) : Type 0 where
  pub is_open : new.is_open ≡ false
  pub session : new.session ≡ old.session
  pub knows : KnowsPut old new
  pub taken : new.taken ≡ old.taken
  pub empty : new.empty ≡ old.empty
  pub spare : new.spare ≡ old.spare
  pub renewals : new.renewals ≡ old.renewals
  pub read : ReadsWord old.last new.last (control_word old.session true false)

-- The word was read and shows a sender inside. Nothing changed but that.
pub record FindsSender (old : RecvValue) (word : ℕ) (new : RecvValue) : Type 0 where
  pub shows : ShowsInside old.session word
  pub word_is : word ≡ control_word old.session true true
  pub read : ReadsWord old.last new.last word
  pub rest : new ≡ record old { last = new.last }

-- The control word was read, which is of no session before the sender's.
pub record SeesControl (old : SendValue) (word : ℕ) (new : SendValue) : Type 0 where
  pub least : old.session ≤ word / 8
  pub inside : old.inside ≡ true → word ≡ control_word old.session true true
  pub outside : old.inside ≡ false → word % 8 < 2
  pub read : ReadsWord old.last new.last word
  pub rest : OnlySees old new

-- The sender is inside the session that the word showed, which is its own of before or a later one. In a
-- later one it has put nothing.
pub record EntersSession (old new : SendValue) : Type 0 where
  pub inside : new.inside ≡ true
  pub session : old.session ≤ new.session
  pub none_put : old.session < new.session → end_sent new ≡ []
  pub knows : KnowsTaken old new
  pub sent : new.sent ≡ old.sent
  pub drops : new.drops ≡ old.drops
  pub full : new.full ≡ old.full
  pub spare : new.spare ≡ old.spare
  pub read : ReadsWord old.last new.last (control_word new.session true false)

-- The word that was read last is not open, or is of a later session. Nothing changed but that.
pub record FindsNoSession (old : SendValue) (word : ℕ) (new : SendValue) : Type 0 where
  pub shows : ShowsClosed old.session word
  pub read : ReadsWord old.last new.last word
  pub rest : OnlySees old new
