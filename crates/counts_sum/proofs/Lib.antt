mod Adds
