-- The commands of a session as they are shown (own choice).
use Rattle.std.specs.Prelude.{codes, ◌++◌}
use Rattle.text_lines.specs.Words.{Text}

unfoldable pub help_text : Text
help_text =
    codes "forward, back   one message of the recording on, or back\n"
    ++ (codes "go N            to the place where N messages are past, 0 for the beginning\n"
    ++ (codes "find COND       on to the next message whose outcome makes a condition true, as in: "
    ++ (codes "find any ( fail silent )\n"
    ++ (codes "state           the channels, and the registers of their terminals\n"
    ++ (codes "state --all     what the hosts of the terminals set, too\n"
    ++ (codes "forward N, back N   so many messages on, or back (where lines are typed)\n"
    ++ (codes "go channel C N  to message N of channel C\n"
    ++ (codes "find back COND  back to the latest message before the place whose outcome makes a condition true\n"
    ++ (codes "find SELECTOR   on to the next message of these commands, in the words of a rule, as in: find tx 5 3\n"
    ++ (codes "find back SELECTOR   back to the latest message of these commands before the place\n"
    ++ (codes "go TIME         to the place before the first message with a later stamp, as in: go 1.2s, go 350ms\n"
    ++ (codes "show, show N    the message at the place, or message N, as people read it\n"
    ++ (codes "data A S        what terminal A holds at subaddress S: received, received from all, to transmit\n"
    ++ (codes "help            these lines\n"
    ++ (codes "quit            ends the session\n")))))))))))))))
