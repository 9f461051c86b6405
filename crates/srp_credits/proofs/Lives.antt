-- The credits of both sides go on with their histories.
use Rattle.std.proofs.Common.{◌≡◌, ℕ, ◌+◌, ◌-◌, ◌≤◌, ◌<◌, Bool, true, false, List, [], ◌∷◌, ◌++◌, length, min, Contains, Option, Some, None, refl, sym, ◌∙◌, ap, arith, length-append, pos, ◌+ℤ◌, ◌-ℤ◌}
use Rattle.std.specs.Option.{option_map}
use Rattle.std.specs.Int.{int_min}
use Rattle.std.proofs.lemmas.Int.{ints, clamps}
use Rattle.srp_credits.specs.History.{Event, Login, Sent, Answered, Logout, Lost, without, outstanding, limit, raised}
use Rattle.srp_credits.specs.Initiator.{InitiatorCredits, IsAfter, HasHistory, IsCapped}
use Rattle.srp_credits.specs.Target.{TargetCredits, TargetIsAfter, TargetHasHistory}
use Rattle.srp_credits.proofs.Lists.{length-without}

-- an initiator with this limit and these tags
abbrev pub credits : Option ℕ → List ℕ → InitiatorCredits
credits l tags = record { limit = l; tags = tags }

pub login_lived : (l : Option ℕ) (tags : List ℕ) (delta n : ℕ) (tags' : List ℕ) → HasHistory (credits l tags) → n ≡ min delta 200 → tags' ≡ [] → HasHistory (credits (Some n) tags')
login_lived l tags delta n tags' h e f = record {
  events = Login delta ∷ h.events;
  after = record {
    lawful = record { proper = h.after.lawful.proper; within = h.after.lawful.within };
    login = refl;
    allows = ap pos (sym e);
    sent = f;
  };
  capped = rw f (omega arith);
}

sent_from : (n : ℕ) (tags : List ℕ) (tag : ℕ) (tags' : List ℕ) → HasHistory (credits (Some n) tags) → 0 < n → (¬ Contains tags tag) → tags' ≡ tags ++ tag ∷ [] → HasHistory (credits (Some (n - 1)) tags')
sent_from n tags tag tags' h some fresh f = record {
  events = Sent tag ∷ h.events;
  after = record {
    lawful = record {
      proper = (h.after.lawful.proper, h.after.login, rw h.after.sent at fresh);
      within = (h.after.lawful.within, rw h.after.allows (omega (arith, ints)));
    };
    login = h.after.login;
    allows = rw h.after.allows (omega (arith, ints));
    sent = rw (← h.after.sent) f;
  };
  capped = rw f (omega (arith, h.capped, length-append tags (tag ∷ [])));
}

pub sent_lived : (l : Option ℕ) (n : ℕ) (tags : List ℕ) (tag : ℕ) (tags' : List ℕ) → l ≡ Some n → HasHistory (credits l tags) → 0 < n → (¬ Contains tags tag) → tags' ≡ tags ++ tag ∷ [] → HasHistory (credits (Some (n - 1)) tags')
sent_lived l n tags tag tags' e h some fresh f = sent_from n tags tag tags' (rw e at h) some fresh f

-- the limit after an answer, as an integer
raised_limit : (n delta used : ℕ) → used ≤ 200 → int_min (pos n +ℤ pos delta) (pos 200 -ℤ pos used) ≡ pos (min (n + delta) (200 - used))
raised_limit n delta used h = omega (arith, ints, clamps)

pub answered_after : (es : List Event) (l : Option ℕ) (tags : List ℕ) (tag delta : ℕ) (l' : Option ℕ) (tags' : List ℕ) → IsAfter es (credits l tags) → IsCapped (credits l tags) → Contains tags tag → tags' ≡ without tag tags → l' ≡ option_map (λ n. min (n + delta) (200 - length tags')) l → IsAfter (Answered tag delta ∷ es) (credits l' tags')
answered_after es None tags tag delta l' tags' h few there f e = rw (e, f) record {
  lawful = record {
    proper = (h.lawful.proper, rw h.sent at there);
    within = h.lawful.within;
  };
  login = h.login;
  allows = ap (λ on. raised on (limit es) delta (length (without tag (outstanding es)))) h.login;
  sent = ap (without tag) h.sent;
}
answered_after es (Some n) tags tag delta l' tags' h few there f e = rw (e, f) record {
  lawful = record {
    proper = (h.lawful.proper, rw h.sent at there);
    within = h.lawful.within;
  };
  login = h.login;
  allows =
      rw (h.login, h.allows, ← h.sent) (raised_limit n delta (length (without tag tags)) (omega (arith, few, length-without tag tags there)));
  sent = ap (without tag) h.sent;
}

answered_capped : (l : Option ℕ) (tags : List ℕ) (tag delta : ℕ) → IsCapped (credits l tags) → Contains tags tag → IsCapped (credits (option_map (λ n. min (n + delta) (200 - length (without tag tags))) l) (without tag tags))
answered_capped None tags tag delta few there = absurd (omega (arith, there.1, ap length few))
answered_capped (Some n) tags tag delta few there =
    omega (arith, few, length-without tag tags there)

pub answered_lived : (l : Option ℕ) (tags : List ℕ) (tag delta : ℕ) (l' : Option ℕ) (tags' : List ℕ) → HasHistory (credits l tags) → Contains tags tag → tags' ≡ without tag tags → l' ≡ option_map (λ n. min (n + delta) (200 - length tags')) l → HasHistory (credits l' tags')
answered_lived l tags tag delta l' tags' h there f e = record {
  events = Answered tag delta ∷ h.events;
  after = answered_after h.events l tags tag delta l' tags' h.after h.capped there f e;
  capped = rw (e, f) (answered_capped l tags tag delta h.capped there);
}

-- a target that grants n, after so many logins, with so many requests outstanding
abbrev pub grants : ℕ → ℕ → Bool → ℕ → TargetCredits
grants n logins on used = record { granted = n; logins = logins; on = on; outstanding = used }

-- the tag that is outstanding longest
first_of : (tags : List ℕ) → 0 < length tags → (tag : ℕ) × Contains tags tag
first_of [] h = absurd (omega arith)
first_of (x ∷ xs) h = (x, (0, h, refl))

pub target_login : (n logins : ℕ) (on : Bool) (used : ℕ) → on ≡ false → TargetHasHistory (grants n logins on used) → TargetHasHistory (grants n (logins + 1) true 0)
target_login n logins on used off h = record {
  events = Login n ∷ h.events;
  after = record {
    lawful = (h.after.lawful, sym h.after.login ∙ off, refl);
    counted = ap (λ (m : ℕ). m + 1) h.after.counted;
    login = refl;
    accepted = refl;
  };
  within = omega arith;
}

pub target_accept : (n logins : ℕ) (on : Bool) (used : ℕ) → on ≡ true → used + 1 ≤ n → TargetHasHistory (grants n logins on used) → TargetHasHistory (grants n logins on (used + 1))
target_accept n logins on used logged_in few h = record {
  events = Sent 0 ∷ h.events;
  after = record {
    lawful = (h.after.lawful, sym h.after.login ∙ logged_in, rw (← h.after.accepted) few);
    counted = h.after.counted;
    login = h.after.login;
    accepted = omega (arith, h.after.accepted, length-append (outstanding h.events) (0 ∷ []));
  };
  within = few;
}

pub target_answered : (es : List Event) (tag delta n logins : ℕ) (on : Bool) (used : ℕ) → Contains (outstanding es) tag → TargetIsAfter es (grants n logins on used) → TargetIsAfter (Answered tag delta ∷ es) (grants n logins on (used - 1))
target_answered es tag delta n logins on used there h = record {
  lawful = (h.lawful, there);
  counted = h.counted;
  login = h.login;
  accepted = omega (arith, h.accepted, length-without tag (outstanding es) there);
}

pub target_answer : (n logins : ℕ) (on : Bool) (used : ℕ) → 0 < used → TargetHasHistory (grants n logins on used) → TargetHasHistory (grants n logins on (used - 1))
target_answer n logins on used some h =
    let first : (tag : ℕ) × Contains (outstanding h.events) tag = first_of (outstanding h.events) (omega (arith, h.after.accepted)) in
    record {
      events = Answered first.0 1 ∷ h.events;
      after = target_answered h.events first.0 1 n logins on used first.1 h.after;
      within = omega (arith, h.within);
    }

pub target_logout : (n logins : ℕ) (on : Bool) (used : ℕ) → TargetHasHistory (grants n logins on used) → TargetHasHistory (grants n logins false used)
target_logout n logins on used h = record {
  events = Logout ∷ h.events;
  after = record {
    lawful = h.after.lawful;
    counted = h.after.counted;
    login = refl;
    accepted = h.after.accepted;
  };
  within = h.within;
}

pub target_lost : (n logins : ℕ) (on : Bool) (used : ℕ) → TargetHasHistory (grants n logins on used) → TargetHasHistory (grants n logins false 0)
target_lost n logins on used h = record {
  events = Lost ∷ h.events;
  after = record {
    lawful = h.after.lawful;
    counted = h.after.counted;
    login = refl;
    accepted = refl;
  };
  within = omega arith;
}
