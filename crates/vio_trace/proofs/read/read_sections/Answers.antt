use Rattle.std.proofs.Common.{◌≡◌, ◌++◌, codes, rules}
use Rattle.vio_trace.specs.Begun.{BeginsSome}
use Rattle.vio_trace.specs.Form.{IsInForm, IsNoText}
use Rattle.vio_trace.specs.Reading.{WhereBad}
use Rattle.vio_trace.specs.Shared.{NoneShares, WhereBadAt}
use Rattle.vio_trace.specs.Text.{trace_text}
use Rattle.vio_trace.proofs.BegunTrace.{all_next, all_start, end_begins, part_begins, title_begins, logs_part, queues_part, grants_part, serves_part, answers_part, frames_part, ports_part, posts_part, delivers_part, harvests_part, tces_part, copies_part, strokes_part}
use Rattle.vio_trace.proofs.Headed.{where_bad}
use Rattle.vio_trace.proofs.Sectioned.{none_started, none_ended, started, logs_next, logs_none, queues_next, queues_none, grants_next, grants_none, serves_next, serves_none, answers_next, answers_none, frames_next, frames_none, ports_next, ports_none, posts_next, posts_none, delivers_next, delivers_none, harvests_next, harvests_none, tces_next, tces_none, copies_next, copies_none, strokes_next, strokes_none}
use Rattle.vio_trace.proofs.SectionedShared.{title_bad, started_in, ended_in, logs_next_in, logs_none_in, queues_next_in, queues_none_in, grants_next_in, grants_none_in, serves_next_in, serves_none_in, answers_next_in, answers_none_in, frames_next_in, frames_none_in, ports_next_in, ports_none_in, posts_next_in, posts_none_in, delivers_next_in, delivers_none_in, harvests_next_in, harvests_none_in, tces_next_in, tces_none_in, copies_next_in, copies_none_in, strokes_next_in, strokes_none_in}
use Rattle.vio_trace.proofs.Sharing.{where_bad_at}
use Rattle.vio_trace.proofs.Whole.{trace_joined}
use Rattle.vio_trace.proofs.read.read_sections.Goals as goal

pub returns-clause-ok : goal.returns-clause-ok
returns-clause-ok c =
    trace_joined c.in_ok-logs.logs c.in_ok-queues.queues c.in_ok-grants.grants c.in_ok-serves.serves c.in_ok-answers.answers c.in_ok-frames.frames c.in_ok-ports.ports c.in_ok-posts.posts c.in_ok-delivers.delivers c.in_ok-harvests.harvests c.in_ok-tces.tces c.in_ok-copies.copies c.in_ok-strokes.strokes
    c.args.bytes.now c.in-Some.rest.now c.in_ok-logs.rest.now c.in_ok-queues.rest.now c.in_ok-grants.rest.now c.in_ok-serves.rest.now c.in_ok-answers.rest.now c.in_ok-frames.rest.now c.in_ok-ports.rest.now c.in_ok-posts.rest.now c.in_ok-delivers.rest.now c.in_ok-harvests.rest.now c.in_ok-tces.rest.now c.in_ok-copies.rest.now c.in_ok-strokes.rest.now
    (search rules)
    c.in_ok-logs.ensures.rows c.in_ok-logs.ensures.order
    c.in_ok-queues.ensures.rows c.in_ok-queues.ensures.order
    c.in_ok-grants.ensures.rows
    c.in_ok-serves.ensures.rows
    c.in_ok-answers.ensures.rows c.in_ok-answers.ensures.order
    c.in_ok-frames.ensures.rows c.in_ok-frames.ensures.order c.in_ok-frames.ensures.names
    c.in_ok-ports.ensures.rows c.in_ok-ports.ensures.order
    c.in_ok-posts.ensures.rows c.in_ok-posts.ensures.order
    c.in_ok-delivers.ensures.rows c.in_ok-delivers.ensures.order
    c.in_ok-harvests.ensures.rows c.in_ok-harvests.ensures.order
    c.in_ok-tces.ensures.rows c.in_ok-tces.ensures.order
    c.in_ok-copies.ensures.rows c.in_ok-copies.ensures.order
    c.in_ok-strokes.ensures.rows c.in_ok-strokes.ensures.order
    c.in_ok-read_end.ensures.ok

pub returns-in_default-clause-refused : goal.returns-in_default-clause-refused
returns-in_default-clause-refused c = none_started c.in_default.ensures

pub returns-in_err-logs-clause-refused : goal.returns-in_err-logs-clause-refused
returns-in_err-logs-clause-refused c =
    let b : c.args.bytes.now ≡ codes "trace 1\n" ++ c.in-Some.rest.now = search rules in
    let fact : WhereBad c.in_err-logs.field-0.0 (IsNoText c.args.bytes.now) = where_bad c.in_err-logs.field-0.0 _ _ (logs_none (started b)) c.in_err-logs.ensures.refused in
    search (rules, fact)

pub returns-in_err-queues-clause-refused : goal.returns-in_err-queues-clause-refused
returns-in_err-queues-clause-refused c =
    let b : c.args.bytes.now ≡ codes "trace 1\n" ++ c.in-Some.rest.now = search rules in
    let fact : WhereBad c.in_err-queues.field-0.0 (IsNoText c.args.bytes.now) = where_bad c.in_err-queues.field-0.0 _ _ (queues_none (logs_next (started b) c.in_ok-logs.ensures.only)) c.in_err-queues.ensures.refused in
    search (rules, fact)

pub returns-in_err-grants-clause-refused : goal.returns-in_err-grants-clause-refused
returns-in_err-grants-clause-refused c =
    let b : c.args.bytes.now ≡ codes "trace 1\n" ++ c.in-Some.rest.now = search rules in
    let fact : WhereBad c.in_err-grants.field-0.0 (IsNoText c.args.bytes.now) = where_bad c.in_err-grants.field-0.0 _ _ (grants_none (queues_next (logs_next (started b) c.in_ok-logs.ensures.only) c.in_ok-queues.ensures.only)) c.in_err-grants.ensures.refused in
    search (rules, fact)

pub returns-in_err-serves-clause-refused : goal.returns-in_err-serves-clause-refused
returns-in_err-serves-clause-refused c =
    let b : c.args.bytes.now ≡ codes "trace 1\n" ++ c.in-Some.rest.now = search rules in
    let fact : WhereBad c.in_err-serves.field-0.0 (IsNoText c.args.bytes.now) = where_bad c.in_err-serves.field-0.0 _ _ (serves_none (grants_next (queues_next (logs_next (started b) c.in_ok-logs.ensures.only) c.in_ok-queues.ensures.only) c.in_ok-grants.ensures.only)) c.in_err-serves.ensures.refused in
    search (rules, fact)

pub returns-in_err-answers-clause-refused : goal.returns-in_err-answers-clause-refused
returns-in_err-answers-clause-refused c =
    let b : c.args.bytes.now ≡ codes "trace 1\n" ++ c.in-Some.rest.now = search rules in
    let fact : WhereBad c.in_err-answers.field-0.0 (IsNoText c.args.bytes.now) = where_bad c.in_err-answers.field-0.0 _ _ (answers_none (serves_next (grants_next (queues_next (logs_next (started b) c.in_ok-logs.ensures.only) c.in_ok-queues.ensures.only) c.in_ok-grants.ensures.only) c.in_ok-serves.ensures.only)) c.in_err-answers.ensures.refused in
    search (rules, fact)

pub returns-in_err-frames-clause-refused : goal.returns-in_err-frames-clause-refused
returns-in_err-frames-clause-refused c =
    let b : c.args.bytes.now ≡ codes "trace 1\n" ++ c.in-Some.rest.now = search rules in
    let fact : WhereBad c.in_err-frames.field-0.0 (IsNoText c.args.bytes.now) = where_bad c.in_err-frames.field-0.0 _ _ (frames_none (answers_next (serves_next (grants_next (queues_next (logs_next (started b) c.in_ok-logs.ensures.only) c.in_ok-queues.ensures.only) c.in_ok-grants.ensures.only) c.in_ok-serves.ensures.only) c.in_ok-answers.ensures.only)) c.in_err-frames.ensures.refused in
    search (rules, fact)

pub returns-in_err-ports-clause-refused : goal.returns-in_err-ports-clause-refused
returns-in_err-ports-clause-refused c =
    let b : c.args.bytes.now ≡ codes "trace 1\n" ++ c.in-Some.rest.now = search rules in
    let fact : WhereBad c.in_err-ports.field-0.0 (IsNoText c.args.bytes.now) = where_bad c.in_err-ports.field-0.0 _ _ (ports_none (frames_next (answers_next (serves_next (grants_next (queues_next (logs_next (started b) c.in_ok-logs.ensures.only) c.in_ok-queues.ensures.only) c.in_ok-grants.ensures.only) c.in_ok-serves.ensures.only) c.in_ok-answers.ensures.only) c.in_ok-frames.ensures.only)) c.in_err-ports.ensures.refused in
    search (rules, fact)

pub returns-in_err-posts-clause-refused : goal.returns-in_err-posts-clause-refused
returns-in_err-posts-clause-refused c =
    let b : c.args.bytes.now ≡ codes "trace 1\n" ++ c.in-Some.rest.now = search rules in
    let fact : WhereBad c.in_err-posts.field-0.0 (IsNoText c.args.bytes.now) = where_bad c.in_err-posts.field-0.0 _ _ (posts_none (ports_next (frames_next (answers_next (serves_next (grants_next (queues_next (logs_next (started b) c.in_ok-logs.ensures.only) c.in_ok-queues.ensures.only) c.in_ok-grants.ensures.only) c.in_ok-serves.ensures.only) c.in_ok-answers.ensures.only) c.in_ok-frames.ensures.only) c.in_ok-ports.ensures.only)) c.in_err-posts.ensures.refused in
    search (rules, fact)

pub returns-in_err-delivers-clause-refused : goal.returns-in_err-delivers-clause-refused
returns-in_err-delivers-clause-refused c =
    let b : c.args.bytes.now ≡ codes "trace 1\n" ++ c.in-Some.rest.now = search rules in
    let fact : WhereBad c.in_err-delivers.field-0.0 (IsNoText c.args.bytes.now) = where_bad c.in_err-delivers.field-0.0 _ _ (delivers_none (posts_next (ports_next (frames_next (answers_next (serves_next (grants_next (queues_next (logs_next (started b) c.in_ok-logs.ensures.only) c.in_ok-queues.ensures.only) c.in_ok-grants.ensures.only) c.in_ok-serves.ensures.only) c.in_ok-answers.ensures.only) c.in_ok-frames.ensures.only) c.in_ok-ports.ensures.only) c.in_ok-posts.ensures.only)) c.in_err-delivers.ensures.refused in
    search (rules, fact)

pub returns-in_err-harvests-clause-refused : goal.returns-in_err-harvests-clause-refused
returns-in_err-harvests-clause-refused c =
    let b : c.args.bytes.now ≡ codes "trace 1\n" ++ c.in-Some.rest.now = search rules in
    let fact : WhereBad c.in_err-harvests.field-0.0 (IsNoText c.args.bytes.now) = where_bad c.in_err-harvests.field-0.0 _ _ (harvests_none (delivers_next (posts_next (ports_next (frames_next (answers_next (serves_next (grants_next (queues_next (logs_next (started b) c.in_ok-logs.ensures.only) c.in_ok-queues.ensures.only) c.in_ok-grants.ensures.only) c.in_ok-serves.ensures.only) c.in_ok-answers.ensures.only) c.in_ok-frames.ensures.only) c.in_ok-ports.ensures.only) c.in_ok-posts.ensures.only) c.in_ok-delivers.ensures.only)) c.in_err-harvests.ensures.refused in
    search (rules, fact)

pub returns-in_err-tces-clause-refused : goal.returns-in_err-tces-clause-refused
returns-in_err-tces-clause-refused c =
    let b : c.args.bytes.now ≡ codes "trace 1\n" ++ c.in-Some.rest.now = search rules in
    let fact : WhereBad c.in_err-tces.field-0.0 (IsNoText c.args.bytes.now) = where_bad c.in_err-tces.field-0.0 _ _ (tces_none (harvests_next (delivers_next (posts_next (ports_next (frames_next (answers_next (serves_next (grants_next (queues_next (logs_next (started b) c.in_ok-logs.ensures.only) c.in_ok-queues.ensures.only) c.in_ok-grants.ensures.only) c.in_ok-serves.ensures.only) c.in_ok-answers.ensures.only) c.in_ok-frames.ensures.only) c.in_ok-ports.ensures.only) c.in_ok-posts.ensures.only) c.in_ok-delivers.ensures.only) c.in_ok-harvests.ensures.only)) c.in_err-tces.ensures.refused in
    search (rules, fact)

pub returns-in_err-copies-clause-refused : goal.returns-in_err-copies-clause-refused
returns-in_err-copies-clause-refused c =
    let b : c.args.bytes.now ≡ codes "trace 1\n" ++ c.in-Some.rest.now = search rules in
    let fact : WhereBad c.in_err-copies.field-0.0 (IsNoText c.args.bytes.now) = where_bad c.in_err-copies.field-0.0 _ _ (copies_none (tces_next (harvests_next (delivers_next (posts_next (ports_next (frames_next (answers_next (serves_next (grants_next (queues_next (logs_next (started b) c.in_ok-logs.ensures.only) c.in_ok-queues.ensures.only) c.in_ok-grants.ensures.only) c.in_ok-serves.ensures.only) c.in_ok-answers.ensures.only) c.in_ok-frames.ensures.only) c.in_ok-ports.ensures.only) c.in_ok-posts.ensures.only) c.in_ok-delivers.ensures.only) c.in_ok-harvests.ensures.only) c.in_ok-tces.ensures.only)) c.in_err-copies.ensures.refused in
    search (rules, fact)

pub returns-in_err-strokes-clause-refused : goal.returns-in_err-strokes-clause-refused
returns-in_err-strokes-clause-refused c =
    let b : c.args.bytes.now ≡ codes "trace 1\n" ++ c.in-Some.rest.now = search rules in
    let fact : WhereBad c.in_err-strokes.field-0.0 (IsNoText c.args.bytes.now) = where_bad c.in_err-strokes.field-0.0 _ _ (strokes_none (copies_next (tces_next (harvests_next (delivers_next (posts_next (ports_next (frames_next (answers_next (serves_next (grants_next (queues_next (logs_next (started b) c.in_ok-logs.ensures.only) c.in_ok-queues.ensures.only) c.in_ok-grants.ensures.only) c.in_ok-serves.ensures.only) c.in_ok-answers.ensures.only) c.in_ok-frames.ensures.only) c.in_ok-ports.ensures.only) c.in_ok-posts.ensures.only) c.in_ok-delivers.ensures.only) c.in_ok-harvests.ensures.only) c.in_ok-tces.ensures.only) c.in_ok-copies.ensures.only)) c.in_err-strokes.ensures.refused in
    search (rules, fact)

pub returns-in_err-read_end-clause-refused : goal.returns-in_err-read_end-clause-refused
returns-in_err-read_end-clause-refused c =
    let b : c.args.bytes.now ≡ codes "trace 1\n" ++ c.in-Some.rest.now = search rules in
    let fact : WhereBad c.in_err-read_end.field-0.0 (IsNoText c.args.bytes.now) = where_bad c.in_err-read_end.field-0.0 _ _ (none_ended (strokes_next (copies_next (tces_next (harvests_next (delivers_next (posts_next (ports_next (frames_next (answers_next (serves_next (grants_next (queues_next (logs_next (started b) c.in_ok-logs.ensures.only) c.in_ok-queues.ensures.only) c.in_ok-grants.ensures.only) c.in_ok-serves.ensures.only) c.in_ok-answers.ensures.only) c.in_ok-frames.ensures.only) c.in_ok-ports.ensures.only) c.in_ok-posts.ensures.only) c.in_ok-delivers.ensures.only) c.in_ok-harvests.ensures.only) c.in_ok-tces.ensures.only) c.in_ok-copies.ensures.only) c.in_ok-strokes.ensures.only)) c.in_err-read_end.ensures.refused in
    search (rules, fact)

pub returns-in_default-clause-bad : goal.returns-in_default-clause-bad
returns-in_default-clause-bad c = title_bad c.args.bytes.now c.in_default.ensures

pub returns-in_err-logs-clause-bad : goal.returns-in_err-logs-clause-bad
returns-in_err-logs-clause-bad c =
    let b : c.args.bytes.now ≡ codes "trace 1\n" ++ c.in-Some.rest.now = search rules in
    let fact : WhereBadAt c.in_err-logs.field-0.0 (NoneShares IsNoText c.args.bytes.now) = where_bad_at c.in_err-logs.field-0.0 _ _ (λ left bad. logs_none_in (started_in b) bad) c.in_err-logs.ensures.bad in
    search (rules, fact)

pub returns-in_err-queues-clause-bad : goal.returns-in_err-queues-clause-bad
returns-in_err-queues-clause-bad c =
    let b : c.args.bytes.now ≡ codes "trace 1\n" ++ c.in-Some.rest.now = search rules in
    let fact : WhereBadAt c.in_err-queues.field-0.0 (NoneShares IsNoText c.args.bytes.now) = where_bad_at c.in_err-queues.field-0.0 _ _ (λ left bad. queues_none_in (logs_next_in (started_in b) c.in_ok-logs.ensures.rows.1 c.in_ok-logs.ensures.shared) bad) c.in_err-queues.ensures.bad in
    search (rules, fact)

pub returns-in_err-grants-clause-bad : goal.returns-in_err-grants-clause-bad
returns-in_err-grants-clause-bad c =
    let b : c.args.bytes.now ≡ codes "trace 1\n" ++ c.in-Some.rest.now = search rules in
    let fact : WhereBadAt c.in_err-grants.field-0.0 (NoneShares IsNoText c.args.bytes.now) = where_bad_at c.in_err-grants.field-0.0 _ _ (λ left bad. grants_none_in (queues_next_in (logs_next_in (started_in b) c.in_ok-logs.ensures.rows.1 c.in_ok-logs.ensures.shared) c.in_ok-queues.ensures.rows.1 c.in_ok-queues.ensures.shared) bad) c.in_err-grants.ensures.bad in
    search (rules, fact)

pub returns-in_err-serves-clause-bad : goal.returns-in_err-serves-clause-bad
returns-in_err-serves-clause-bad c =
    let b : c.args.bytes.now ≡ codes "trace 1\n" ++ c.in-Some.rest.now = search rules in
    let fact : WhereBadAt c.in_err-serves.field-0.0 (NoneShares IsNoText c.args.bytes.now) = where_bad_at c.in_err-serves.field-0.0 _ _ (λ left bad. serves_none_in (grants_next_in (queues_next_in (logs_next_in (started_in b) c.in_ok-logs.ensures.rows.1 c.in_ok-logs.ensures.shared) c.in_ok-queues.ensures.rows.1 c.in_ok-queues.ensures.shared) c.in_ok-grants.ensures.rows.1 c.in_ok-grants.ensures.shared) bad) c.in_err-serves.ensures.bad in
    search (rules, fact)

pub returns-in_err-answers-clause-bad : goal.returns-in_err-answers-clause-bad
returns-in_err-answers-clause-bad c =
    let b : c.args.bytes.now ≡ codes "trace 1\n" ++ c.in-Some.rest.now = search rules in
    let fact : WhereBadAt c.in_err-answers.field-0.0 (NoneShares IsNoText c.args.bytes.now) = where_bad_at c.in_err-answers.field-0.0 _ _ (λ left bad. answers_none_in (serves_next_in (grants_next_in (queues_next_in (logs_next_in (started_in b) c.in_ok-logs.ensures.rows.1 c.in_ok-logs.ensures.shared) c.in_ok-queues.ensures.rows.1 c.in_ok-queues.ensures.shared) c.in_ok-grants.ensures.rows.1 c.in_ok-grants.ensures.shared) c.in_ok-serves.ensures.rows.1 c.in_ok-serves.ensures.shared) bad) c.in_err-answers.ensures.bad in
    search (rules, fact)

pub returns-in_err-frames-clause-bad : goal.returns-in_err-frames-clause-bad
returns-in_err-frames-clause-bad c =
    let b : c.args.bytes.now ≡ codes "trace 1\n" ++ c.in-Some.rest.now = search rules in
    let fact : WhereBadAt c.in_err-frames.field-0.0 (NoneShares IsNoText c.args.bytes.now) = where_bad_at c.in_err-frames.field-0.0 _ _ (λ left bad. frames_none_in (answers_next_in (serves_next_in (grants_next_in (queues_next_in (logs_next_in (started_in b) c.in_ok-logs.ensures.rows.1 c.in_ok-logs.ensures.shared) c.in_ok-queues.ensures.rows.1 c.in_ok-queues.ensures.shared) c.in_ok-grants.ensures.rows.1 c.in_ok-grants.ensures.shared) c.in_ok-serves.ensures.rows.1 c.in_ok-serves.ensures.shared) c.in_ok-answers.ensures.rows.1 c.in_ok-answers.ensures.shared) bad) c.in_err-frames.ensures.bad in
    search (rules, fact)

pub returns-in_err-ports-clause-bad : goal.returns-in_err-ports-clause-bad
returns-in_err-ports-clause-bad c =
    let b : c.args.bytes.now ≡ codes "trace 1\n" ++ c.in-Some.rest.now = search rules in
    let fact : WhereBadAt c.in_err-ports.field-0.0 (NoneShares IsNoText c.args.bytes.now) = where_bad_at c.in_err-ports.field-0.0 _ _ (λ left bad. ports_none_in (frames_next_in (answers_next_in (serves_next_in (grants_next_in (queues_next_in (logs_next_in (started_in b) c.in_ok-logs.ensures.rows.1 c.in_ok-logs.ensures.shared) c.in_ok-queues.ensures.rows.1 c.in_ok-queues.ensures.shared) c.in_ok-grants.ensures.rows.1 c.in_ok-grants.ensures.shared) c.in_ok-serves.ensures.rows.1 c.in_ok-serves.ensures.shared) c.in_ok-answers.ensures.rows.1 c.in_ok-answers.ensures.shared) c.in_ok-frames.ensures.rows.1 c.in_ok-frames.ensures.shared) bad) c.in_err-ports.ensures.bad in
    search (rules, fact)

pub returns-in_err-posts-clause-bad : goal.returns-in_err-posts-clause-bad
returns-in_err-posts-clause-bad c =
    let b : c.args.bytes.now ≡ codes "trace 1\n" ++ c.in-Some.rest.now = search rules in
    let fact : WhereBadAt c.in_err-posts.field-0.0 (NoneShares IsNoText c.args.bytes.now) = where_bad_at c.in_err-posts.field-0.0 _ _ (λ left bad. posts_none_in (ports_next_in (frames_next_in (answers_next_in (serves_next_in (grants_next_in (queues_next_in (logs_next_in (started_in b) c.in_ok-logs.ensures.rows.1 c.in_ok-logs.ensures.shared) c.in_ok-queues.ensures.rows.1 c.in_ok-queues.ensures.shared) c.in_ok-grants.ensures.rows.1 c.in_ok-grants.ensures.shared) c.in_ok-serves.ensures.rows.1 c.in_ok-serves.ensures.shared) c.in_ok-answers.ensures.rows.1 c.in_ok-answers.ensures.shared) c.in_ok-frames.ensures.rows.1 c.in_ok-frames.ensures.shared) c.in_ok-ports.ensures.rows.1 c.in_ok-ports.ensures.shared) bad) c.in_err-posts.ensures.bad in
    search (rules, fact)

pub returns-in_err-delivers-clause-bad : goal.returns-in_err-delivers-clause-bad
returns-in_err-delivers-clause-bad c =
    let b : c.args.bytes.now ≡ codes "trace 1\n" ++ c.in-Some.rest.now = search rules in
    let fact : WhereBadAt c.in_err-delivers.field-0.0 (NoneShares IsNoText c.args.bytes.now) = where_bad_at c.in_err-delivers.field-0.0 _ _ (λ left bad. delivers_none_in (posts_next_in (ports_next_in (frames_next_in (answers_next_in (serves_next_in (grants_next_in (queues_next_in (logs_next_in (started_in b) c.in_ok-logs.ensures.rows.1 c.in_ok-logs.ensures.shared) c.in_ok-queues.ensures.rows.1 c.in_ok-queues.ensures.shared) c.in_ok-grants.ensures.rows.1 c.in_ok-grants.ensures.shared) c.in_ok-serves.ensures.rows.1 c.in_ok-serves.ensures.shared) c.in_ok-answers.ensures.rows.1 c.in_ok-answers.ensures.shared) c.in_ok-frames.ensures.rows.1 c.in_ok-frames.ensures.shared) c.in_ok-ports.ensures.rows.1 c.in_ok-ports.ensures.shared) c.in_ok-posts.ensures.rows.1 c.in_ok-posts.ensures.shared) bad) c.in_err-delivers.ensures.bad in
    search (rules, fact)

pub returns-in_err-harvests-clause-bad : goal.returns-in_err-harvests-clause-bad
returns-in_err-harvests-clause-bad c =
    let b : c.args.bytes.now ≡ codes "trace 1\n" ++ c.in-Some.rest.now = search rules in
    let fact : WhereBadAt c.in_err-harvests.field-0.0 (NoneShares IsNoText c.args.bytes.now) = where_bad_at c.in_err-harvests.field-0.0 _ _ (λ left bad. harvests_none_in (delivers_next_in (posts_next_in (ports_next_in (frames_next_in (answers_next_in (serves_next_in (grants_next_in (queues_next_in (logs_next_in (started_in b) c.in_ok-logs.ensures.rows.1 c.in_ok-logs.ensures.shared) c.in_ok-queues.ensures.rows.1 c.in_ok-queues.ensures.shared) c.in_ok-grants.ensures.rows.1 c.in_ok-grants.ensures.shared) c.in_ok-serves.ensures.rows.1 c.in_ok-serves.ensures.shared) c.in_ok-answers.ensures.rows.1 c.in_ok-answers.ensures.shared) c.in_ok-frames.ensures.rows.1 c.in_ok-frames.ensures.shared) c.in_ok-ports.ensures.rows.1 c.in_ok-ports.ensures.shared) c.in_ok-posts.ensures.rows.1 c.in_ok-posts.ensures.shared) c.in_ok-delivers.ensures.rows.1 c.in_ok-delivers.ensures.shared) bad) c.in_err-harvests.ensures.bad in
    search (rules, fact)

pub returns-in_err-tces-clause-bad : goal.returns-in_err-tces-clause-bad
returns-in_err-tces-clause-bad c =
    let b : c.args.bytes.now ≡ codes "trace 1\n" ++ c.in-Some.rest.now = search rules in
    let fact : WhereBadAt c.in_err-tces.field-0.0 (NoneShares IsNoText c.args.bytes.now) = where_bad_at c.in_err-tces.field-0.0 _ _ (λ left bad. tces_none_in (harvests_next_in (delivers_next_in (posts_next_in (ports_next_in (frames_next_in (answers_next_in (serves_next_in (grants_next_in (queues_next_in (logs_next_in (started_in b) c.in_ok-logs.ensures.rows.1 c.in_ok-logs.ensures.shared) c.in_ok-queues.ensures.rows.1 c.in_ok-queues.ensures.shared) c.in_ok-grants.ensures.rows.1 c.in_ok-grants.ensures.shared) c.in_ok-serves.ensures.rows.1 c.in_ok-serves.ensures.shared) c.in_ok-answers.ensures.rows.1 c.in_ok-answers.ensures.shared) c.in_ok-frames.ensures.rows.1 c.in_ok-frames.ensures.shared) c.in_ok-ports.ensures.rows.1 c.in_ok-ports.ensures.shared) c.in_ok-posts.ensures.rows.1 c.in_ok-posts.ensures.shared) c.in_ok-delivers.ensures.rows.1 c.in_ok-delivers.ensures.shared) c.in_ok-harvests.ensures.rows.1 c.in_ok-harvests.ensures.shared) bad) c.in_err-tces.ensures.bad in
    search (rules, fact)

pub returns-in_err-copies-clause-bad : goal.returns-in_err-copies-clause-bad
returns-in_err-copies-clause-bad c =
    let b : c.args.bytes.now ≡ codes "trace 1\n" ++ c.in-Some.rest.now = search rules in
    let fact : WhereBadAt c.in_err-copies.field-0.0 (NoneShares IsNoText c.args.bytes.now) = where_bad_at c.in_err-copies.field-0.0 _ _ (λ left bad. copies_none_in (tces_next_in (harvests_next_in (delivers_next_in (posts_next_in (ports_next_in (frames_next_in (answers_next_in (serves_next_in (grants_next_in (queues_next_in (logs_next_in (started_in b) c.in_ok-logs.ensures.rows.1 c.in_ok-logs.ensures.shared) c.in_ok-queues.ensures.rows.1 c.in_ok-queues.ensures.shared) c.in_ok-grants.ensures.rows.1 c.in_ok-grants.ensures.shared) c.in_ok-serves.ensures.rows.1 c.in_ok-serves.ensures.shared) c.in_ok-answers.ensures.rows.1 c.in_ok-answers.ensures.shared) c.in_ok-frames.ensures.rows.1 c.in_ok-frames.ensures.shared) c.in_ok-ports.ensures.rows.1 c.in_ok-ports.ensures.shared) c.in_ok-posts.ensures.rows.1 c.in_ok-posts.ensures.shared) c.in_ok-delivers.ensures.rows.1 c.in_ok-delivers.ensures.shared) c.in_ok-harvests.ensures.rows.1 c.in_ok-harvests.ensures.shared) c.in_ok-tces.ensures.rows.1 c.in_ok-tces.ensures.shared) bad) c.in_err-copies.ensures.bad in
    search (rules, fact)

pub returns-in_err-strokes-clause-bad : goal.returns-in_err-strokes-clause-bad
returns-in_err-strokes-clause-bad c =
    let b : c.args.bytes.now ≡ codes "trace 1\n" ++ c.in-Some.rest.now = search rules in
    let fact : WhereBadAt c.in_err-strokes.field-0.0 (NoneShares IsNoText c.args.bytes.now) = where_bad_at c.in_err-strokes.field-0.0 _ _ (λ left bad. strokes_none_in (copies_next_in (tces_next_in (harvests_next_in (delivers_next_in (posts_next_in (ports_next_in (frames_next_in (answers_next_in (serves_next_in (grants_next_in (queues_next_in (logs_next_in (started_in b) c.in_ok-logs.ensures.rows.1 c.in_ok-logs.ensures.shared) c.in_ok-queues.ensures.rows.1 c.in_ok-queues.ensures.shared) c.in_ok-grants.ensures.rows.1 c.in_ok-grants.ensures.shared) c.in_ok-serves.ensures.rows.1 c.in_ok-serves.ensures.shared) c.in_ok-answers.ensures.rows.1 c.in_ok-answers.ensures.shared) c.in_ok-frames.ensures.rows.1 c.in_ok-frames.ensures.shared) c.in_ok-ports.ensures.rows.1 c.in_ok-ports.ensures.shared) c.in_ok-posts.ensures.rows.1 c.in_ok-posts.ensures.shared) c.in_ok-delivers.ensures.rows.1 c.in_ok-delivers.ensures.shared) c.in_ok-harvests.ensures.rows.1 c.in_ok-harvests.ensures.shared) c.in_ok-tces.ensures.rows.1 c.in_ok-tces.ensures.shared) c.in_ok-copies.ensures.rows.1 c.in_ok-copies.ensures.shared) bad) c.in_err-strokes.ensures.bad in
    search (rules, fact)

pub returns-in_err-read_end-clause-bad : goal.returns-in_err-read_end-clause-bad
returns-in_err-read_end-clause-bad c =
    let b : c.args.bytes.now ≡ codes "trace 1\n" ++ c.in-Some.rest.now = search rules in
    let fact : WhereBadAt c.in_err-read_end.field-0.0 (NoneShares IsNoText c.args.bytes.now) = where_bad_at c.in_err-read_end.field-0.0 _ _ (λ left bad. ended_in (strokes_next_in (copies_next_in (tces_next_in (harvests_next_in (delivers_next_in (posts_next_in (ports_next_in (frames_next_in (answers_next_in (serves_next_in (grants_next_in (queues_next_in (logs_next_in (started_in b) c.in_ok-logs.ensures.rows.1 c.in_ok-logs.ensures.shared) c.in_ok-queues.ensures.rows.1 c.in_ok-queues.ensures.shared) c.in_ok-grants.ensures.rows.1 c.in_ok-grants.ensures.shared) c.in_ok-serves.ensures.rows.1 c.in_ok-serves.ensures.shared) c.in_ok-answers.ensures.rows.1 c.in_ok-answers.ensures.shared) c.in_ok-frames.ensures.rows.1 c.in_ok-frames.ensures.shared) c.in_ok-ports.ensures.rows.1 c.in_ok-ports.ensures.shared) c.in_ok-posts.ensures.rows.1 c.in_ok-posts.ensures.shared) c.in_ok-delivers.ensures.rows.1 c.in_ok-delivers.ensures.shared) c.in_ok-harvests.ensures.rows.1 c.in_ok-harvests.ensures.shared) c.in_ok-tces.ensures.rows.1 c.in_ok-tces.ensures.shared) c.in_ok-copies.ensures.rows.1 c.in_ok-copies.ensures.shared) c.in_ok-strokes.ensures.rows.1 c.in_ok-strokes.ensures.shared) bad) c.in_err-read_end.ensures.bad in
    search (rules, fact)

pub returns-in_default-clause-begun : goal.returns-in_default-clause-begun
returns-in_default-clause-begun c = title_begins c.args.bytes.now

pub returns-in_err-logs-clause-begun : goal.returns-in_err-logs-clause-begun
returns-in_err-logs-clause-begun c =
    let b : c.args.bytes.now ≡ codes "trace 1\n" ++ c.in-Some.rest.now = search rules in
    let fact : WhereBadAt c.in_err-logs.field-0.0 (BeginsSome trace_text IsInForm c.args.bytes.now) = where_bad_at c.in_err-logs.field-0.0 _ _ (λ left begun. part_begins logs_part (all_start b) begun) c.in_err-logs.ensures.begun in
    search (rules, fact)

pub returns-in_err-queues-clause-begun : goal.returns-in_err-queues-clause-begun
returns-in_err-queues-clause-begun c =
    let b : c.args.bytes.now ≡ codes "trace 1\n" ++ c.in-Some.rest.now = search rules in
    let fact : WhereBadAt c.in_err-queues.field-0.0 (BeginsSome trace_text IsInForm c.args.bytes.now) = where_bad_at c.in_err-queues.field-0.0 _ _ (λ left begun. part_begins queues_part (all_next c.in_ok-logs.logs logs_part (all_start b) c.in_ok-logs.ensures.rows c.in_ok-logs.ensures.names c.in_ok-logs.ensures.order) begun) c.in_err-queues.ensures.begun in
    search (rules, fact)

pub returns-in_err-grants-clause-begun : goal.returns-in_err-grants-clause-begun
returns-in_err-grants-clause-begun c =
    let b : c.args.bytes.now ≡ codes "trace 1\n" ++ c.in-Some.rest.now = search rules in
    let fact : WhereBadAt c.in_err-grants.field-0.0 (BeginsSome trace_text IsInForm c.args.bytes.now) = where_bad_at c.in_err-grants.field-0.0 _ _ (λ left begun. part_begins grants_part (all_next c.in_ok-queues.queues queues_part (all_next c.in_ok-logs.logs logs_part (all_start b) c.in_ok-logs.ensures.rows c.in_ok-logs.ensures.names c.in_ok-logs.ensures.order) c.in_ok-queues.ensures.rows c.in_ok-queues.ensures.names c.in_ok-queues.ensures.order) begun) c.in_err-grants.ensures.begun in
    search (rules, fact)

pub returns-in_err-serves-clause-begun : goal.returns-in_err-serves-clause-begun
returns-in_err-serves-clause-begun c =
    let b : c.args.bytes.now ≡ codes "trace 1\n" ++ c.in-Some.rest.now = search rules in
    let fact : WhereBadAt c.in_err-serves.field-0.0 (BeginsSome trace_text IsInForm c.args.bytes.now) = where_bad_at c.in_err-serves.field-0.0 _ _ (λ left begun. part_begins serves_part (all_next c.in_ok-grants.grants grants_part (all_next c.in_ok-queues.queues queues_part (all_next c.in_ok-logs.logs logs_part (all_start b) c.in_ok-logs.ensures.rows c.in_ok-logs.ensures.names c.in_ok-logs.ensures.order) c.in_ok-queues.ensures.rows c.in_ok-queues.ensures.names c.in_ok-queues.ensures.order) c.in_ok-grants.ensures.rows c.in_ok-grants.ensures.names c.in_ok-grants.ensures.order) begun) c.in_err-serves.ensures.begun in
    search (rules, fact)

pub returns-in_err-answers-clause-begun : goal.returns-in_err-answers-clause-begun
returns-in_err-answers-clause-begun c =
    let b : c.args.bytes.now ≡ codes "trace 1\n" ++ c.in-Some.rest.now = search rules in
    let fact : WhereBadAt c.in_err-answers.field-0.0 (BeginsSome trace_text IsInForm c.args.bytes.now) = where_bad_at c.in_err-answers.field-0.0 _ _ (λ left begun. part_begins answers_part (all_next c.in_ok-serves.serves serves_part (all_next c.in_ok-grants.grants grants_part (all_next c.in_ok-queues.queues queues_part (all_next c.in_ok-logs.logs logs_part (all_start b) c.in_ok-logs.ensures.rows c.in_ok-logs.ensures.names c.in_ok-logs.ensures.order) c.in_ok-queues.ensures.rows c.in_ok-queues.ensures.names c.in_ok-queues.ensures.order) c.in_ok-grants.ensures.rows c.in_ok-grants.ensures.names c.in_ok-grants.ensures.order) c.in_ok-serves.ensures.rows c.in_ok-serves.ensures.names c.in_ok-serves.ensures.order) begun) c.in_err-answers.ensures.begun in
    search (rules, fact)

pub returns-in_err-frames-clause-begun : goal.returns-in_err-frames-clause-begun
returns-in_err-frames-clause-begun c =
    let b : c.args.bytes.now ≡ codes "trace 1\n" ++ c.in-Some.rest.now = search rules in
    let fact : WhereBadAt c.in_err-frames.field-0.0 (BeginsSome trace_text IsInForm c.args.bytes.now) = where_bad_at c.in_err-frames.field-0.0 _ _ (λ left begun. part_begins frames_part (all_next c.in_ok-answers.answers answers_part (all_next c.in_ok-serves.serves serves_part (all_next c.in_ok-grants.grants grants_part (all_next c.in_ok-queues.queues queues_part (all_next c.in_ok-logs.logs logs_part (all_start b) c.in_ok-logs.ensures.rows c.in_ok-logs.ensures.names c.in_ok-logs.ensures.order) c.in_ok-queues.ensures.rows c.in_ok-queues.ensures.names c.in_ok-queues.ensures.order) c.in_ok-grants.ensures.rows c.in_ok-grants.ensures.names c.in_ok-grants.ensures.order) c.in_ok-serves.ensures.rows c.in_ok-serves.ensures.names c.in_ok-serves.ensures.order) c.in_ok-answers.ensures.rows c.in_ok-answers.ensures.names c.in_ok-answers.ensures.order) begun) c.in_err-frames.ensures.begun in
    search (rules, fact)

pub returns-in_err-ports-clause-begun : goal.returns-in_err-ports-clause-begun
returns-in_err-ports-clause-begun c =
    let b : c.args.bytes.now ≡ codes "trace 1\n" ++ c.in-Some.rest.now = search rules in
    let fact : WhereBadAt c.in_err-ports.field-0.0 (BeginsSome trace_text IsInForm c.args.bytes.now) = where_bad_at c.in_err-ports.field-0.0 _ _ (λ left begun. part_begins ports_part (all_next c.in_ok-frames.frames frames_part (all_next c.in_ok-answers.answers answers_part (all_next c.in_ok-serves.serves serves_part (all_next c.in_ok-grants.grants grants_part (all_next c.in_ok-queues.queues queues_part (all_next c.in_ok-logs.logs logs_part (all_start b) c.in_ok-logs.ensures.rows c.in_ok-logs.ensures.names c.in_ok-logs.ensures.order) c.in_ok-queues.ensures.rows c.in_ok-queues.ensures.names c.in_ok-queues.ensures.order) c.in_ok-grants.ensures.rows c.in_ok-grants.ensures.names c.in_ok-grants.ensures.order) c.in_ok-serves.ensures.rows c.in_ok-serves.ensures.names c.in_ok-serves.ensures.order) c.in_ok-answers.ensures.rows c.in_ok-answers.ensures.names c.in_ok-answers.ensures.order) c.in_ok-frames.ensures.rows c.in_ok-frames.ensures.names c.in_ok-frames.ensures.order) begun) c.in_err-ports.ensures.begun in
    search (rules, fact)

pub returns-in_err-posts-clause-begun : goal.returns-in_err-posts-clause-begun
returns-in_err-posts-clause-begun c =
    let b : c.args.bytes.now ≡ codes "trace 1\n" ++ c.in-Some.rest.now = search rules in
    let fact : WhereBadAt c.in_err-posts.field-0.0 (BeginsSome trace_text IsInForm c.args.bytes.now) = where_bad_at c.in_err-posts.field-0.0 _ _ (λ left begun. part_begins posts_part (all_next c.in_ok-ports.ports ports_part (all_next c.in_ok-frames.frames frames_part (all_next c.in_ok-answers.answers answers_part (all_next c.in_ok-serves.serves serves_part (all_next c.in_ok-grants.grants grants_part (all_next c.in_ok-queues.queues queues_part (all_next c.in_ok-logs.logs logs_part (all_start b) c.in_ok-logs.ensures.rows c.in_ok-logs.ensures.names c.in_ok-logs.ensures.order) c.in_ok-queues.ensures.rows c.in_ok-queues.ensures.names c.in_ok-queues.ensures.order) c.in_ok-grants.ensures.rows c.in_ok-grants.ensures.names c.in_ok-grants.ensures.order) c.in_ok-serves.ensures.rows c.in_ok-serves.ensures.names c.in_ok-serves.ensures.order) c.in_ok-answers.ensures.rows c.in_ok-answers.ensures.names c.in_ok-answers.ensures.order) c.in_ok-frames.ensures.rows c.in_ok-frames.ensures.names c.in_ok-frames.ensures.order) c.in_ok-ports.ensures.rows c.in_ok-ports.ensures.names c.in_ok-ports.ensures.order) begun) c.in_err-posts.ensures.begun in
    search (rules, fact)

pub returns-in_err-delivers-clause-begun : goal.returns-in_err-delivers-clause-begun
returns-in_err-delivers-clause-begun c =
    let b : c.args.bytes.now ≡ codes "trace 1\n" ++ c.in-Some.rest.now = search rules in
    let fact : WhereBadAt c.in_err-delivers.field-0.0 (BeginsSome trace_text IsInForm c.args.bytes.now) = where_bad_at c.in_err-delivers.field-0.0 _ _ (λ left begun. part_begins delivers_part (all_next c.in_ok-posts.posts posts_part (all_next c.in_ok-ports.ports ports_part (all_next c.in_ok-frames.frames frames_part (all_next c.in_ok-answers.answers answers_part (all_next c.in_ok-serves.serves serves_part (all_next c.in_ok-grants.grants grants_part (all_next c.in_ok-queues.queues queues_part (all_next c.in_ok-logs.logs logs_part (all_start b) c.in_ok-logs.ensures.rows c.in_ok-logs.ensures.names c.in_ok-logs.ensures.order) c.in_ok-queues.ensures.rows c.in_ok-queues.ensures.names c.in_ok-queues.ensures.order) c.in_ok-grants.ensures.rows c.in_ok-grants.ensures.names c.in_ok-grants.ensures.order) c.in_ok-serves.ensures.rows c.in_ok-serves.ensures.names c.in_ok-serves.ensures.order) c.in_ok-answers.ensures.rows c.in_ok-answers.ensures.names c.in_ok-answers.ensures.order) c.in_ok-frames.ensures.rows c.in_ok-frames.ensures.names c.in_ok-frames.ensures.order) c.in_ok-ports.ensures.rows c.in_ok-ports.ensures.names c.in_ok-ports.ensures.order) c.in_ok-posts.ensures.rows c.in_ok-posts.ensures.names c.in_ok-posts.ensures.order) begun) c.in_err-delivers.ensures.begun in
    search (rules, fact)

pub returns-in_err-harvests-clause-begun : goal.returns-in_err-harvests-clause-begun
returns-in_err-harvests-clause-begun c =
    let b : c.args.bytes.now ≡ codes "trace 1\n" ++ c.in-Some.rest.now = search rules in
    let fact : WhereBadAt c.in_err-harvests.field-0.0 (BeginsSome trace_text IsInForm c.args.bytes.now) = where_bad_at c.in_err-harvests.field-0.0 _ _ (λ left begun. part_begins harvests_part (all_next c.in_ok-delivers.delivers delivers_part (all_next c.in_ok-posts.posts posts_part (all_next c.in_ok-ports.ports ports_part (all_next c.in_ok-frames.frames frames_part (all_next c.in_ok-answers.answers answers_part (all_next c.in_ok-serves.serves serves_part (all_next c.in_ok-grants.grants grants_part (all_next c.in_ok-queues.queues queues_part (all_next c.in_ok-logs.logs logs_part (all_start b) c.in_ok-logs.ensures.rows c.in_ok-logs.ensures.names c.in_ok-logs.ensures.order) c.in_ok-queues.ensures.rows c.in_ok-queues.ensures.names c.in_ok-queues.ensures.order) c.in_ok-grants.ensures.rows c.in_ok-grants.ensures.names c.in_ok-grants.ensures.order) c.in_ok-serves.ensures.rows c.in_ok-serves.ensures.names c.in_ok-serves.ensures.order) c.in_ok-answers.ensures.rows c.in_ok-answers.ensures.names c.in_ok-answers.ensures.order) c.in_ok-frames.ensures.rows c.in_ok-frames.ensures.names c.in_ok-frames.ensures.order) c.in_ok-ports.ensures.rows c.in_ok-ports.ensures.names c.in_ok-ports.ensures.order) c.in_ok-posts.ensures.rows c.in_ok-posts.ensures.names c.in_ok-posts.ensures.order) c.in_ok-delivers.ensures.rows c.in_ok-delivers.ensures.names c.in_ok-delivers.ensures.order) begun) c.in_err-harvests.ensures.begun in
    search (rules, fact)

pub returns-in_err-tces-clause-begun : goal.returns-in_err-tces-clause-begun
returns-in_err-tces-clause-begun c =
    let b : c.args.bytes.now ≡ codes "trace 1\n" ++ c.in-Some.rest.now = search rules in
    let fact : WhereBadAt c.in_err-tces.field-0.0 (BeginsSome trace_text IsInForm c.args.bytes.now) = where_bad_at c.in_err-tces.field-0.0 _ _ (λ left begun. part_begins tces_part (all_next c.in_ok-harvests.harvests harvests_part (all_next c.in_ok-delivers.delivers delivers_part (all_next c.in_ok-posts.posts posts_part (all_next c.in_ok-ports.ports ports_part (all_next c.in_ok-frames.frames frames_part (all_next c.in_ok-answers.answers answers_part (all_next c.in_ok-serves.serves serves_part (all_next c.in_ok-grants.grants grants_part (all_next c.in_ok-queues.queues queues_part (all_next c.in_ok-logs.logs logs_part (all_start b) c.in_ok-logs.ensures.rows c.in_ok-logs.ensures.names c.in_ok-logs.ensures.order) c.in_ok-queues.ensures.rows c.in_ok-queues.ensures.names c.in_ok-queues.ensures.order) c.in_ok-grants.ensures.rows c.in_ok-grants.ensures.names c.in_ok-grants.ensures.order) c.in_ok-serves.ensures.rows c.in_ok-serves.ensures.names c.in_ok-serves.ensures.order) c.in_ok-answers.ensures.rows c.in_ok-answers.ensures.names c.in_ok-answers.ensures.order) c.in_ok-frames.ensures.rows c.in_ok-frames.ensures.names c.in_ok-frames.ensures.order) c.in_ok-ports.ensures.rows c.in_ok-ports.ensures.names c.in_ok-ports.ensures.order) c.in_ok-posts.ensures.rows c.in_ok-posts.ensures.names c.in_ok-posts.ensures.order) c.in_ok-delivers.ensures.rows c.in_ok-delivers.ensures.names c.in_ok-delivers.ensures.order) c.in_ok-harvests.ensures.rows c.in_ok-harvests.ensures.names c.in_ok-harvests.ensures.order) begun) c.in_err-tces.ensures.begun in
    search (rules, fact)

pub returns-in_err-copies-clause-begun : goal.returns-in_err-copies-clause-begun
returns-in_err-copies-clause-begun c =
    let b : c.args.bytes.now ≡ codes "trace 1\n" ++ c.in-Some.rest.now = search rules in
    let fact : WhereBadAt c.in_err-copies.field-0.0 (BeginsSome trace_text IsInForm c.args.bytes.now) = where_bad_at c.in_err-copies.field-0.0 _ _ (λ left begun. part_begins copies_part (all_next c.in_ok-tces.tces tces_part (all_next c.in_ok-harvests.harvests harvests_part (all_next c.in_ok-delivers.delivers delivers_part (all_next c.in_ok-posts.posts posts_part (all_next c.in_ok-ports.ports ports_part (all_next c.in_ok-frames.frames frames_part (all_next c.in_ok-answers.answers answers_part (all_next c.in_ok-serves.serves serves_part (all_next c.in_ok-grants.grants grants_part (all_next c.in_ok-queues.queues queues_part (all_next c.in_ok-logs.logs logs_part (all_start b) c.in_ok-logs.ensures.rows c.in_ok-logs.ensures.names c.in_ok-logs.ensures.order) c.in_ok-queues.ensures.rows c.in_ok-queues.ensures.names c.in_ok-queues.ensures.order) c.in_ok-grants.ensures.rows c.in_ok-grants.ensures.names c.in_ok-grants.ensures.order) c.in_ok-serves.ensures.rows c.in_ok-serves.ensures.names c.in_ok-serves.ensures.order) c.in_ok-answers.ensures.rows c.in_ok-answers.ensures.names c.in_ok-answers.ensures.order) c.in_ok-frames.ensures.rows c.in_ok-frames.ensures.names c.in_ok-frames.ensures.order) c.in_ok-ports.ensures.rows c.in_ok-ports.ensures.names c.in_ok-ports.ensures.order) c.in_ok-posts.ensures.rows c.in_ok-posts.ensures.names c.in_ok-posts.ensures.order) c.in_ok-delivers.ensures.rows c.in_ok-delivers.ensures.names c.in_ok-delivers.ensures.order) c.in_ok-harvests.ensures.rows c.in_ok-harvests.ensures.names c.in_ok-harvests.ensures.order) c.in_ok-tces.ensures.rows c.in_ok-tces.ensures.names c.in_ok-tces.ensures.order) begun) c.in_err-copies.ensures.begun in
    search (rules, fact)

pub returns-in_err-strokes-clause-begun : goal.returns-in_err-strokes-clause-begun
returns-in_err-strokes-clause-begun c =
    let b : c.args.bytes.now ≡ codes "trace 1\n" ++ c.in-Some.rest.now = search rules in
    let fact : WhereBadAt c.in_err-strokes.field-0.0 (BeginsSome trace_text IsInForm c.args.bytes.now) = where_bad_at c.in_err-strokes.field-0.0 _ _ (λ left begun. part_begins strokes_part (all_next c.in_ok-copies.copies copies_part (all_next c.in_ok-tces.tces tces_part (all_next c.in_ok-harvests.harvests harvests_part (all_next c.in_ok-delivers.delivers delivers_part (all_next c.in_ok-posts.posts posts_part (all_next c.in_ok-ports.ports ports_part (all_next c.in_ok-frames.frames frames_part (all_next c.in_ok-answers.answers answers_part (all_next c.in_ok-serves.serves serves_part (all_next c.in_ok-grants.grants grants_part (all_next c.in_ok-queues.queues queues_part (all_next c.in_ok-logs.logs logs_part (all_start b) c.in_ok-logs.ensures.rows c.in_ok-logs.ensures.names c.in_ok-logs.ensures.order) c.in_ok-queues.ensures.rows c.in_ok-queues.ensures.names c.in_ok-queues.ensures.order) c.in_ok-grants.ensures.rows c.in_ok-grants.ensures.names c.in_ok-grants.ensures.order) c.in_ok-serves.ensures.rows c.in_ok-serves.ensures.names c.in_ok-serves.ensures.order) c.in_ok-answers.ensures.rows c.in_ok-answers.ensures.names c.in_ok-answers.ensures.order) c.in_ok-frames.ensures.rows c.in_ok-frames.ensures.names c.in_ok-frames.ensures.order) c.in_ok-ports.ensures.rows c.in_ok-ports.ensures.names c.in_ok-ports.ensures.order) c.in_ok-posts.ensures.rows c.in_ok-posts.ensures.names c.in_ok-posts.ensures.order) c.in_ok-delivers.ensures.rows c.in_ok-delivers.ensures.names c.in_ok-delivers.ensures.order) c.in_ok-harvests.ensures.rows c.in_ok-harvests.ensures.names c.in_ok-harvests.ensures.order) c.in_ok-tces.ensures.rows c.in_ok-tces.ensures.names c.in_ok-tces.ensures.order) c.in_ok-copies.ensures.rows c.in_ok-copies.ensures.names c.in_ok-copies.ensures.order) begun) c.in_err-strokes.ensures.begun in
    search (rules, fact)

pub returns-in_err-read_end-clause-begun : goal.returns-in_err-read_end-clause-begun
returns-in_err-read_end-clause-begun c =
    let b : c.args.bytes.now ≡ codes "trace 1\n" ++ c.in-Some.rest.now = search rules in
    let fact : WhereBadAt c.in_err-read_end.field-0.0 (BeginsSome trace_text IsInForm c.args.bytes.now) = where_bad_at c.in_err-read_end.field-0.0 _ _ (λ left begun. end_begins (all_next c.in_ok-strokes.strokes strokes_part (all_next c.in_ok-copies.copies copies_part (all_next c.in_ok-tces.tces tces_part (all_next c.in_ok-harvests.harvests harvests_part (all_next c.in_ok-delivers.delivers delivers_part (all_next c.in_ok-posts.posts posts_part (all_next c.in_ok-ports.ports ports_part (all_next c.in_ok-frames.frames frames_part (all_next c.in_ok-answers.answers answers_part (all_next c.in_ok-serves.serves serves_part (all_next c.in_ok-grants.grants grants_part (all_next c.in_ok-queues.queues queues_part (all_next c.in_ok-logs.logs logs_part (all_start b) c.in_ok-logs.ensures.rows c.in_ok-logs.ensures.names c.in_ok-logs.ensures.order) c.in_ok-queues.ensures.rows c.in_ok-queues.ensures.names c.in_ok-queues.ensures.order) c.in_ok-grants.ensures.rows c.in_ok-grants.ensures.names c.in_ok-grants.ensures.order) c.in_ok-serves.ensures.rows c.in_ok-serves.ensures.names c.in_ok-serves.ensures.order) c.in_ok-answers.ensures.rows c.in_ok-answers.ensures.names c.in_ok-answers.ensures.order) c.in_ok-frames.ensures.rows c.in_ok-frames.ensures.names c.in_ok-frames.ensures.order) c.in_ok-ports.ensures.rows c.in_ok-ports.ensures.names c.in_ok-ports.ensures.order) c.in_ok-posts.ensures.rows c.in_ok-posts.ensures.names c.in_ok-posts.ensures.order) c.in_ok-delivers.ensures.rows c.in_ok-delivers.ensures.names c.in_ok-delivers.ensures.order) c.in_ok-harvests.ensures.rows c.in_ok-harvests.ensures.names c.in_ok-harvests.ensures.order) c.in_ok-tces.ensures.rows c.in_ok-tces.ensures.names c.in_ok-tces.ensures.order) c.in_ok-copies.ensures.rows c.in_ok-copies.ensures.names c.in_ok-copies.ensures.order) c.in_ok-strokes.ensures.rows c.in_ok-strokes.ensures.names c.in_ok-strokes.ensures.order) begun) c.in_err-read_end.ensures.begun in
    search (rules, fact)
