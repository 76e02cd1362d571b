-- What happened in a recording, in words.
use Rattle.std.specs.Prelude.{ℕ, List, [], ◌++◌, Option, Some, None, codes, decimal}
use Rattle.rev_races.specs.declared.story.Happened.{Happened}
use Rattle.rev_races.specs.declared.story.Happened.TheVariants as happened
use Rattle.rev_races.specs.declared.runs.Run.{Run}
use Rattle.rev_races.specs.declared.story.Story.{Story}

-- when a command ended, or that it runs, behind who it is
abbrev pub end_words : List ℕ → Run → Option ℕ → List ℕ
end_words who run (Some ended) = who ++ codes " ended at " ++ decimal ended
end_words who run None = who ++ codes " still runs, begun at " ++ decimal run.began

-- when the one ran that came first, and when the other began
abbrev pub runs_words : Happened → Run → Run → List ℕ
runs_words happened.Before maker user =
    end_words (codes "the user") user user.ended ++ codes ", the maker began at " ++ decimal maker.began
runs_words _ maker user =
    end_words (codes "the maker") maker maker.ended ++ codes ", the user began at " ++ decimal user.began

-- the same where not both ran
abbrev pub both_words : Happened → Option Run → Option Run → List ℕ
both_words h None None = codes "neither ran"
both_words h None (Some user) = codes "the maker did not run, the user began at " ++ decimal user.began
both_words h (Some maker) None = end_words (codes "the maker") maker maker.ended ++ codes ", the user did not run"
both_words h (Some maker) (Some user) = runs_words h maker user

-- two runs stand apart where another plan came between them, and else since one of them is not there
abbrev pub apart_words : Option Run → Option Run → List ℕ
apart_words (Some maker) (Some user) = codes "apart: another plan came between these runs"
apart_words _ _ = codes "apart: not both ran"

-- what held the user, or did not
abbrev pub held_words : Happened → Option Run → Option Run → List ℕ
held_words happened.Apart maker user = apart_words maker user
held_words happened.Before maker user = codes "before: the user read an older file"
held_words happened.AtOnce maker user = codes "at once: both ran at one time"
held_words happened.HeldRecord maker user =
    codes "held by a record of an earlier build: a clean build is not held so"
held_words happened.HeldPlace maker user = codes "held by a job or a slot alone"
held_words happened.Free maker user = codes "free: nothing held it"

-- `    here: the maker ended at 6, the user began at 12; free: nothing held it`
abbrev pub here_line : Story → List ℕ
here_line story =
    codes "    here: " ++ both_words story.happened story.maker story.user ++ codes "; "
    ++ held_words story.happened story.maker story.user ++ codes "\n"
